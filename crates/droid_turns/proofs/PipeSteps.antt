-- What steps of the loop did to a reader and a writer.
use Rattle.std.proofs.Common.{◌≡◌, ◌⊎◌, ℕ, Bool, true, false, cond, eqb, List, [], ◌∷◌, Option, refl, sym, ap, subst, ◌∙◌, inl, inr}
use Rattle.std.proofs.KnownBytes.{Appends-nil, Appends-trans, Consumes-nil, Consumes-trans}
use Rattle.std.proofs.lemmas.Bool.{eq-eqb}
use Rattle.std.specs.Io.KnownBytes.{Appends, Consumes}
use Rattle.std.specs.Prelude.{fold}
use Rattle.droid_frame.specs.declared.io.stream_record.Seen.{Seen}
use Rattle.droid_frame.specs.declared.frame.Frame.{Frame}
use Rattle.droid_frame.specs.declared.reply.Reply.{Reply}
use Rattle.droid_turns.specs.Chains.{GoesOver}
use Rattle.droid_turns.specs.Events.{Read, Wrote}
use Rattle.droid_turns.specs.Steps.{Does, Goes, Handles, Happens, Settles, Step, bytes_read, bytes_written, came, went}
use Rattle.droid_turns.specs.Turns.{ServesAll}
use Rattle.droid_turns.specs.declared.departure.Departure.{Departure}
use Rattle.droid_turns.specs.declared.service_end.Served.{Served}
use Rattle.droid_turns.specs.Pipes.{AnswersOne, PipeDoes, left_behind, rules_of_one}
use Rattle.droid_turns.specs.declared.pipe.Pipe.{Pipe}

-- bytes of one connection
none_either : (b : Bool) (bytes : List ℕ) → bytes ≡ [] → bytes ≡ cond b bytes []
none_either true bytes none = refl
none_either false bytes none = none

of_one : (id : ℕ) (bytes : List ℕ) → (id ≡ 0) ⊎ (bytes ≡ []) → bytes ≡ cond (eqb id 0) bytes []
of_one id bytes (inl is) = sym (ap (λ (b : Bool). cond b bytes []) (eq-eqb id 0 is))
of_one id bytes (inr none) = none_either (eqb id 0) bytes none

module _ {R W H : Type 0} (remaining : R → Option (List ℕ)) (contents : W → Option (List ℕ)) (was_read : R → Seen) (was_written : W → Seen) (room : W → Option ℕ) (handles : H → Frame → Reply → H → Type 0) (settles : H → Bool → H → Type 0) where
  read_one : (old new : Pipe R W) (h after : H) (step : Step) → Does (PipeDoes remaining contents was_read was_written room) handles settles (old, h) step (new, after) → Consumes (remaining old.reader) (remaining new.reader) (bytes_read 0 step)
  read_one old new h after (Happens (Read id bytes)) did = subst (Consumes (remaining old.reader) (remaining new.reader)) (of_one id bytes did.0.one) did.0.read
  read_one old new h after (Happens event) did = did.0.read
  read_one old new h after (Handles id frame reply) did = subst (λ (p : Pipe R W). Consumes (remaining old.reader) (remaining p.reader) []) (sym did.0) (Consumes-nil (remaining old.reader))
  read_one old new h after (Settles done) did = subst (λ (p : Pipe R W). Consumes (remaining old.reader) (remaining p.reader) []) (sym did.0) (Consumes-nil (remaining old.reader))

  write_one : (old new : Pipe R W) (h after : H) (step : Step) → Does (PipeDoes remaining contents was_read was_written room) handles settles (old, h) step (new, after) → Appends (contents old.writer) (contents new.writer) (bytes_written 0 step)
  write_one old new h after (Happens (Wrote id bytes)) did = subst (Appends (contents old.writer) (contents new.writer)) (of_one id bytes did.0.one) did.0.written
  write_one old new h after (Happens event) did = did.0.written
  write_one old new h after (Handles id frame reply) did = subst (λ (p : Pipe R W). Appends (contents old.writer) (contents p.writer) []) (sym did.0) (Appends-nil (contents old.writer))
  write_one old new h after (Settles done) did = subst (λ (p : Pipe R W). Appends (contents old.writer) (contents p.writer) []) (sym did.0) (Appends-nil (contents old.writer))

  read_all : (steps : List Step) (old new : Pipe R W) (h after : H) → GoesOver (Does (PipeDoes remaining contents was_read was_written room) handles settles) (old, h) steps (new, after) → Consumes (remaining old.reader) (remaining new.reader) (came 0 steps)
  read_all [] old new h after over = subst (λ (pair : Pipe R W × H). Consumes (remaining old.reader) (remaining pair.0.reader) []) (sym over) (Consumes-nil (remaining old.reader))
  read_all (step ∷ steps) old new h after over =
      Consumes-trans (remaining old.reader) (remaining over.0.0.reader) (remaining new.reader) (bytes_read 0 step) (came 0 steps)
      (read_one old over.0.0 h over.0.1 step over.1) (read_all steps over.0.0 new over.0.1 after over.2)

  write_all : (steps : List Step) (old new : Pipe R W) (h after : H) → GoesOver (Does (PipeDoes remaining contents was_read was_written room) handles settles) (old, h) steps (new, after) → Appends (contents old.writer) (contents new.writer) (went 0 steps)
  write_all [] old new h after over = subst (λ (pair : Pipe R W × H). Appends (contents old.writer) (contents pair.0.writer) []) (sym over) (Appends-nil (contents old.writer))
  write_all (step ∷ steps) old new h after over =
      Appends-trans (contents old.writer) (contents over.0.0.writer) (contents new.writer) (bytes_written 0 step) (went 0 steps)
      (write_one old over.0.0 h over.0.1 step over.1) (write_all steps over.0.0 new over.0.1 after over.2)

  leave_one : (old new : Pipe R W) (h after : H) (step : Step) → Does (PipeDoes remaining contents was_read was_written room) handles settles (old, h) step (new, after) → new.departure ≡ left_behind old.departure step
  leave_one old new h after (Happens event) did = did.0.left
  leave_one old new h after (Handles id frame reply) did = ap (λ (p : Pipe R W). p.departure) did.0
  leave_one old new h after (Settles done) did = ap (λ (p : Pipe R W). p.departure) did.0

  leave_all : (steps : List Step) (old new : Pipe R W) (h after : H) → GoesOver (Does (PipeDoes remaining contents was_read was_written room) handles settles) (old, h) steps (new, after) → new.departure ≡ fold left_behind old.departure steps
  leave_all [] old new h after over = ap (λ (pair : Pipe R W × H). pair.0.departure) over
  leave_all (step ∷ steps) old new h after over =
      leave_all steps over.0.0 new over.0.1 after over.2 ∙ ap (λ (d : Option Departure). fold left_behind d steps) (leave_one old over.0.0 h over.0.1 step over.1)

  pub answers_one : (old new : Pipe R W) (h after : H) (result : Served) → Goes (PipeDoes remaining contents was_read was_written room) handles settles old h new after (ServesAll rules_of_one result)
      → Goes (PipeDoes remaining contents was_read was_written room) handles settles old h new after (AnswersOne (remaining old.reader) (remaining new.reader) (contents old.writer) (contents new.writer) old.departure new.departure result)
  answers_one old new h after result goes = record {
    steps = goes.steps;
    done = goes.done;
    holds = record {
      serves = goes.holds;
      read = read_all goes.steps old new h after goes.done;
      written = write_all goes.steps old new h after goes.done;
      departed = leave_all goes.steps old new h after goes.done;
    };
  }
