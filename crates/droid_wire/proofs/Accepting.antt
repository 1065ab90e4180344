-- What goes into the journal: of a service that serves every command that is accepted and new, and nothing else; of one that
-- reads a journal every command that is not refused.
use Rattle.std.proofs.Common.{◌≡◌, ◌^◌, nat_lt, cond, Bool, true, false, List, Option, Some, None, IsSome, refl, sym, ap, subst, ◌∙◌}
use Rattle.std.specs.Prelude.{MatchBool, not, ◌&&◌}
use Rattle.std.proofs.lemmas.Bool.{and_parts}
use Rattle.droid_frame.specs.Streams.{IsReadable}
use Rattle.droid_frame.specs.declared.frame.Frame.{Frame}
use Rattle.droid_frame.specs.declared.reply.Reply.{Reply}
use Rattle.droid_frame.specs.declared.reply.Reply.TheVariants.{Refused}
use Rattle.droid_frame.specs.declared.request.Request.{Request}
use Rattle.droid_frame.specs.Bodies.{request_kind}
use Rattle.droid_frame.specs.Fields.{IsBytes}
use Rattle.droid_frame.specs.RequestValues.{request_in, request_value}
use Rattle.droid_frame.proofs.RequestLaws.{value_is_spelled}
use Rattle.droid_core_spec.proofs.Judged.{judged}
use Rattle.droid_core_spec.proofs.Meetings.{answer_by, next_by, whatever_meets}
use Rattle.droid_core_spec.specs.Histories.{Entry, Handles, History, Meeting, Nothing, Repeat, Reuse, New, answer, command, history_with, kept, meeting, next, reply_to, world_of}
use Rattle.droid_core.specs.Handled.{adds, is_added}
use Rattle.droid_core_spec.specs.Judging.{Accepted, Answered, Refuses, Verdict}
use Rattle.droid_core_spec.specs.MemoryFaults.{is_out_of_memory}
use Rattle.droid_core_spec.specs.Setting.{Setting}
use Rattle.droid_core.specs.Standing.{StandsFor}
use Rattle.droid_core_spec.specs.Verdicts.{MayCome, is_command}
use Rattle.droid_frame.specs.Replies.{is_refused}
use Rattle.droid_core.specs.declared.service.Service.{Service}
use Rattle.droid_journal.specs.Records.{Record}
use Rattle.droid_wire.specs.Histories.{Base, GivesNew, IsHistoryBehind, history_then}
use Rattle.droid_wire.proofs.HistoryLaws.{one_history}

-- the kind of a frame is that of the request that it asks
where_it_holds : (b : Bool) (value : Option Request) (request : Request) → cond b value None ≡ Some request → value ≡ Some request
where_it_holds true value request is = is
where_it_holds false value request is = absurd cc

pub kind_asked : (frame : Frame) (request : Request) → IsBytes frame.body → command frame ≡ Some request → frame.kind ≡ request_kind request
unfolding command request_in
kind_asked frame request are is =
    (value_is_spelled frame.version frame.kind frame.body request are (where_it_holds (nat_lt frame.number (2 ^ 63)) (request_value frame.version frame.kind frame.body) request is)).kind_is

pub contrary : (b : Bool) → b ≡ true → b ≡ false → ⊥
contrary b is isnt = cc

pub held : (b accepted : Bool) → (b ≡ false → accepted ≡ false) → accepted ≡ true → b ≡ true
held true accepted unless is = refl
held false accepted unless is = absurd (contrary accepted is (unless refl))

pub held_not : (b accepted : Bool) → (b ≡ true → accepted ≡ false) → accepted ≡ true → b ≡ false
held_not true accepted unless is = absurd (contrary accepted is (unless refl))
held_not false accepted unless is = refl

refused_memory : (reply : Reply) → is_out_of_memory reply ≡ true → is_refused reply ≡ true
refused_memory (Refused refusal) is = refl
refused_memory _ is = absurd cc

none_kept : (o : Option Entry) → o ≡ None → IsSome o → ⊥
none_kept None is some = absurd cc
none_kept (Some entry) is some = absurd cc

-- ---- what comes of a request

module _ (setting : Setting) (history : History) (frame : Frame) (reply : Reply) (new : Service) (accepted : Bool) where
  -- the request was handled, the service stands for what comes next, and what goes into the journal was answered
  abbrev pub Came : Bool → Type 0
  Came b =
      MatchBool b (IsSome (command frame) × (history ≡ history_then setting history frame accepted))
      ((reply ≡ answer setting history frame) × (next setting history frame ≡ history_then setting history frame accepted))
      × StandsFor setting new (history_then setting history frame accepted) × (accepted ≡ true → reply ≡ answer setting history frame)

  module _ (failed : is_out_of_memory reply ≡ true → accepted ≡ false) (goes : is_out_of_memory reply ≡ false → reply ≡ answer setting history frame → next setting history frame ≡ history_then setting history frame accepted) where
    by_memory : (b : Bool) → is_out_of_memory reply ≡ b → MatchBool b (IsSome (command frame) × StandsFor setting new history) ((reply ≡ answer setting history frame) × StandsFor setting new (next setting history frame)) → Came b
    by_memory true is handled =
        let isnt : accepted ≡ false = failed is in
        let same : history ≡ history_then setting history frame accepted = ap (λ (b : Bool). history_then setting history frame b) (sym isnt) in
        ((handled.0, same), subst (StandsFor setting new) same handled.1, λ was. absurd (contrary accepted was isnt))
    by_memory false is handled =
        let same : next setting history frame ≡ history_then setting history frame accepted = goes is handled.0 in
        ((handled.0, same), subst (StandsFor setting new) same handled.1, λ was. handled.0)

    pub came : Handles setting history frame reply (StandsFor setting new) → Came (is_out_of_memory reply)
    came handled = by_memory (is_out_of_memory reply) refl handled

by_kind : (frame : Frame) (request : Request) → IsReadable frame → command frame ≡ Some request → is_command request ≡ true → nat_lt frame.kind 7 ≡ true
by_kind frame request readable asked is = ap (λ (kind : _). nat_lt kind 7) (kind_asked frame request readable.is_frame.body_is_bytes asked) ∙ is

-- ---- a service that reads a journal

module _ (setting : Setting) (history : History) (frame : Frame) (reply : Reply) (accepted : Bool) (readable : IsReadable frame) (refused : is_refused reply ≡ true → accepted ≡ false)
    (taken : nat_lt frame.kind 7 ≡ true → is_refused reply ≡ false → accepted ≡ true) where
  by_verdict : (request : Request) (verdict : Verdict) → command frame ≡ Some request → MayCome (world_of setting history) request verdict → accepted ≡ false → reply ≡ reply_to (New verdict)
      → history_with history frame (New verdict) ≡ history
  by_verdict request (Accepted its after) asked may isnt reported =
      let carried : is_refused reply ≡ false = ap (λ (r : Reply). is_refused r) reported ∙ may.no_refusal in
      absurd (contrary accepted (taken (by_kind frame request readable asked may.command) carried) isnt)
  by_verdict request (Answered its) asked may isnt reported = refl
  by_verdict request (Refuses refusal) asked may isnt reported = refl

  -- what does not stand in the journal leaves the history as it is
  stays : accepted ≡ false → reply ≡ answer setting history frame → next setting history frame ≡ history
  stays isnt reported =
      let met : Meeting = meeting setting history frame in
      next_by setting history frame met refl
      ∙ whatever_meets setting history frame (λ (m : Meeting). reply ≡ reply_to m → history_with history frame m ≡ history) (λ is. refl) (λ entry there is. refl) (λ is. refl)
      (λ request asked is_new is. by_verdict request _ asked (judged setting (world_of setting history) frame.version request) isnt is) (reported ∙ answer_by setting history frame met refl)

  then_is : (b : Bool) → accepted ≡ b → reply ≡ answer setting history frame → next setting history frame ≡ history_then setting history frame b
  then_is true is reported = refl
  then_is false is reported = stays is reported

  pub read_failed : is_out_of_memory reply ≡ true → accepted ≡ false
  read_failed is = refused (refused_memory reply is)

  pub read_goes : is_out_of_memory reply ≡ false → reply ≡ answer setting history frame → next setting history frame ≡ history_then setting history frame accepted
  read_goes isnt reported = then_is accepted refl reported

-- ---- a service that serves

unchanged : (history : History) (frame : Frame) (met : Meeting) → adds met ≡ false → history_with history frame met ≡ history
unchanged history frame Nothing isnt = refl
unchanged history frame (Repeat entry) isnt = refl
unchanged history frame Reuse isnt = refl
unchanged history frame (New (Accepted reply after)) isnt = absurd cc
unchanged history frame (New (Answered reply)) isnt = refl
unchanged history frame (New (Refuses refusal)) isnt = refl

module _ (setting : Setting) (history : History) (frame : Frame) where
  next_then : (b : Bool) → adds (meeting setting history frame) ≡ b → next setting history frame ≡ history_then setting history frame b
  next_then true is = refl
  next_then false isnt = next_by setting history frame (meeting setting history frame) refl ∙ unchanged history frame (meeting setting history frame) isnt

  abbrev IsNew : Meeting → Type 0
  IsNew met = (kept history frame.client frame.number ≡ None) × (nat_lt frame.kind 7 ≡ true) × (is_refused (reply_to met) ≡ false)

  new_by_verdict : (request : Request) (verdict : Verdict) → IsReadable frame → command frame ≡ Some request → kept history frame.client frame.number ≡ None → MayCome (world_of setting history) request verdict
      → adds (New verdict) ≡ true → IsNew (New verdict)
  new_by_verdict request (Accepted its after) readable asked is_new may is = (is_new, by_kind frame request readable asked may.command, may.no_refusal)
  new_by_verdict request (Answered its) readable asked is_new may is = absurd cc
  new_by_verdict request (Refuses refusal) readable asked is_new may is = absurd cc

  new_met : IsReadable frame → adds (meeting setting history frame) ≡ true → IsNew (meeting setting history frame)
  new_met readable =
      whatever_meets setting history frame (λ (m : Meeting). adds m ≡ true → IsNew m) (λ is. absurd cc) (λ entry there is. absurd cc) (λ is. absurd cc)
      (λ request asked is_new is. new_by_verdict request _ readable asked is_new (judged setting (world_of setting history) frame.version request) is)

  module _ (reply : Reply) (accepted : Bool) (added : accepted ≡ is_added setting history frame reply) where
    pub new_failed : is_out_of_memory reply ≡ true → accepted ≡ false
    new_failed is = added ∙ ap (λ (b : Bool). not b && adds (meeting setting history frame)) is

    pub new_goes : is_out_of_memory reply ≡ false → reply ≡ answer setting history frame → next setting history frame ≡ history_then setting history frame accepted
    new_goes isnt reported = next_then accepted (sym (added ∙ ap (λ (b : Bool). not b && adds (meeting setting history frame)) isnt))

    -- what goes into the journal is a new command that is not refused
    pub new_added : IsReadable frame → (accepted ≡ true → reply ≡ answer setting history frame) → accepted ≡ true → (kept history frame.client frame.number ≡ None) × (nat_lt frame.kind 7 ≡ true) × (is_refused reply ≡ false)
    new_added readable answered is =
        let met : Meeting = meeting setting history frame in
        let its = new_met readable (and_parts (not (is_out_of_memory reply)) (adds met) (sym added ∙ is)).1 in
        (its.0, its.1, ap (λ (r : Reply). is_refused r) (answered is ∙ answer_by setting history frame met refl) ∙ its.2)

-- under a number that has an entry nothing is new
pub never_new : (setting : Setting) (base : Base setting) (records : List Record) (all : History) (frame : Frame) (reply : Reply) → IsHistoryBehind setting base records all → IsSome (kept all frame.client frame.number)
    → GivesNew setting base records frame reply true → ⊥
never_new setting base records all frame reply its known gives =
    let same : gives.gives.history ≡ all = one_history setting base records gives.gives.history all gives.gives.its its in
    none_kept (kept all frame.client frame.number) (subst (λ (h : History). kept h frame.client frame.number ≡ None) same (gives.is_new refl)) known
