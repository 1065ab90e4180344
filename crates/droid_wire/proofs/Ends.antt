-- How serving a stream ends.
use Rattle.std.proofs.Common.{◌≡◌, ℕ, ◌+◌, ◌-◌, ◌<◌, ◌≤◌, List, [], ◌++◌, length, take, Option, Some, None, Ok, Err, IfSome, sym, ap, subst, ◌∙◌, append-nil, length-append, arith}
use Rattle.std.specs.Io.KnownBytes.{Appends}
use Rattle.std.proofs.KnownBytes.{Appends-trans}
use Rattle.std.proofs.Math.Seq.{take-append-add}
use Rattle.droid_frame.specs.ReplyFrames.{reply_frame}
use Rattle.droid_core.specs.Standing.{StandsFor}
use Rattle.droid_core.specs.declared.service.Service.{Service}
use Rattle.droid_core_spec.specs.Histories.{History}
use Rattle.droid_core_spec.specs.Setting.{Setting}
use Rattle.droid_wire.specs.declared.stream_end.Ended.TheVariants.{Closed, Turns}
use Rattle.droid_wire.specs.declared.serve_fault.ServeFault.{ServeFault}
use Rattle.droid_wire.specs.declared.serve_fault.ServeFault.TheVariants as faults
use Rattle.droid_core_spec.specs.Written.{reply_frames}
use Rattle.droid_wire.specs.Serving.{Handled, Outcome, Serves, ServesCut}
use Rattle.droid_wire.specs.Steps.{Cut, Idle, TurnGives}
use Rattle.droid_wire.proofs.SoFar.{SoFar, handled_more, history_after, reply_frames-push, turn_here}

-- ---- after all turns

pub turns_done : (setting : Setting) (history : History) (known left old new : Option (List ℕ)) (after : Service) (turn turns written : ℕ) → turn ≡ turns
    → IfSome known (λ input. SoFar setting history input left old new after turn written)
    → IfSome known (λ input. Outcome setting history turns input left old new after (Ok Turns))
turns_done setting history None left old new after turn turns written all so_far = tt
turns_done setting history (Some input) left old new after turn turns written all so_far = record {
  frames = so_far.frames;
  replies = so_far.replies;
  rest = so_far.rest;
  handled = so_far.handled;
  written = so_far.appended;
  ends = (so_far.count ∙ all, so_far.is_left);
}

-- ---- where nothing more was handled

stays_handled : (setting : Setting) (history : History) (left : Option (List ℕ)) (bytes : List ℕ) (old mid new : Option (List ℕ)) (now after : Service) (turn written : ℕ) (P : ℕ → List ℕ → Type 0)
    → (so_far : SoFar setting history bytes left old mid now turn written) → Idle now after mid new → P (length so_far.frames) so_far.rest
    → Serves setting history bytes old new after P
stays_handled setting history left bytes old mid new now after turn written P so_far idle ends = record {
  frames = so_far.frames;
  replies = so_far.replies;
  rest = so_far.rest;
  handled = subst (λ (s : Service). Handled setting history bytes so_far.rest so_far.frames so_far.replies s) (sym idle.service) so_far.handled;
  written = subst (Appends old new) (append-nil (reply_frames so_far.frames so_far.replies)) (Appends-trans old mid new _ [] so_far.appended idle.written);
  ends = ends;
}

pub stream_closed : (setting : Setting) (history : History) (known left more old mid new : Option (List ℕ)) (now after : Service) (turn turns written : ℕ) (answer : Option ℕ) → answer ≡ None → turn < turns
    → IfSome known (λ input. SoFar setting history input left old mid now turn written)
    → ((here : History) → StandsFor setting now here → IfSome left (λ rest. TurnGives setting here rest more mid new now after written (Ok answer)))
    → IfSome known (λ input. Outcome setting history turns input more old new after (Ok Closed))
stream_closed setting history None left more old mid new now after turn turns written answer is within so_far gives = tt
stream_closed setting history (Some input) left more old mid new now after turn turns written answer is within so_far gives =
    let given = turn_here setting history input left old mid now turn written (λ here rest. TurnGives setting here rest more mid new now after written (Ok None)) so_far (rw is at gives) in
    let fewer : length so_far.frames < turns = omega (arith, so_far.count, within) in
    stays_handled setting history left input old mid new now after turn written _ so_far given.0 (fewer, given.1, given.2)

-- ---- where a reply could not be written

all_but_some : (front last : List ℕ) (written cut : ℕ) → written ≡ length front → written ≤ cut → take cut (front ++ last) ≡ front ++ take (cut - written) last
all_but_some front last written cut is on =
    let place : cut ≡ length front + (cut - written) = omega arith in
    ap (λ (n : ℕ). take n (front ++ last)) place ∙ take-append-add front last (cut - written)

pub cut_short : (setting : Setting) (history : History) (input : List ℕ) (left more old mid new : Option (List ℕ)) (now after : Service) (turn turns written cut : ℕ) → turn < turns
    → (so_far : SoFar setting history input left old mid now turn written) → written ≤ cut
    → Cut setting (history_after setting history so_far.frames so_far.replies) so_far.rest more mid new after (cut - written)
    → ServesCut setting history turns input more old new after cut
cut_short setting history input left more old mid new now after turn turns written cut within so_far on given =
    let front = reply_frames so_far.frames so_far.replies in
    let last = reply_frame given.frame.version given.frame.client given.frame.number given.reply in
    let push = reply_frames-push so_far.frames so_far.replies given.frame given.reply so_far.handled.runs.count in
    let some = all_but_some front last written cut so_far.written_is on in
    record {
      frames = so_far.frames;
      replies = so_far.replies;
      last_frame = given.frame;
      last_reply = given.reply;
      rest = given.turn.rest;
      handled = handled_more setting history input so_far.rest more so_far.frames so_far.replies now after given.frame given.reply so_far.handled given.turn;
      within = omega (arith, so_far.count, within);
      is_left = given.turn.is_left;
      others = omega (arith, so_far.written_is, on);
      short = omega (arith, given.short, so_far.written_is, on, ap length push, length-append front last);
      written = subst (Appends old new) (sym (ap (take cut) push ∙ some)) (Appends-trans old mid new front (take (cut - written) last) so_far.appended given.written);
    }

-- ---- a fault of a turn

fault_ends : (setting : Setting) (history : History) (input : List ℕ) (left more old mid new : Option (List ℕ)) (now after : Service) (turn turns written : ℕ) (fault : ServeFault) → turn < turns
    → (so_far : SoFar setting history input left old mid now turn written)
    → TurnGives setting (history_after setting history so_far.frames so_far.replies) so_far.rest more mid new now after written (Err fault)
    → Outcome setting history turns input more old new after (Err fault)
fault_ends setting history input left more old mid new now after turn turns written (faults.Frame fault) within so_far given =
    let fewer : length so_far.frames < turns = omega (arith, so_far.count, within) in
    stays_handled setting history left input old mid new now after turn written _ so_far given.0 (fewer, given.1, given.2)
fault_ends setting history input left more old mid new now after turn turns written (faults.Write cut) within so_far given =
    cut_short setting history input left more old mid new now after turn turns written cut within so_far given.0 given.1

pub stopped : (setting : Setting) (history : History) (known left more old mid new : Option (List ℕ)) (now after : Service) (turn turns written : ℕ) (fault : ServeFault) → turn < turns
    → IfSome known (λ input. SoFar setting history input left old mid now turn written)
    → ((here : History) → StandsFor setting now here → IfSome left (λ rest. TurnGives setting here rest more mid new now after written (Err fault)))
    → IfSome known (λ input. Outcome setting history turns input more old new after (Err fault))
stopped setting history None left more old mid new now after turn turns written fault within so_far gives = tt
stopped setting history (Some input) left more old mid new now after turn turns written fault within so_far gives =
    fault_ends setting history input left more old mid new now after turn turns written fault within so_far
    (turn_here setting history input left old mid now turn written (λ here rest. TurnGives setting here rest more mid new now after written (Err fault)) so_far gives)
