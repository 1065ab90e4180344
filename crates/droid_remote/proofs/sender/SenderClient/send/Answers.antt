use Rattle.std.proofs.Common.{ℕ, List, ap, arith, refl, subst, ◌∙◌}
use Rattle.droid_frame.specs.declared.frame.Frame.{Frame}
use Rattle.droid_remote.specs.Numbered.{frame_of}
use Rattle.droid_remote.specs.SenderCalls.{HasMissed, Misses}
use Rattle.droid_remote.proofs.Pausing.{fails_miss}
use Rattle.droid_remote.proofs.sender.SenderClient.send.Goals as goal

pub returns-in-Err-clause-failed : goal.returns-in-Err-clause-failed
returns-in-Err-clause-failed g c = λ request spells.
    let old = c.args.self.now in
    let new = c.send.new.self in
    let numbered = c.in-Some-numbered_frame.ensures request spells in
    let its = numbered.0 ∙ ap (λ (n : List ℕ). frame_of old.client n 0 request) c.as_str.ensures.value in
    HasMissed c.in-Err.fault
    (record {
      asked = record { attempt_fits = omega arith; has_spelling = spells.has_spelling; submitted = numbered.1 };
      same_client = refl;
      same_name = refl;
      was_going = c.in-None.is;
      stopped = c.stop_of-self.ensures;
      misses = λ known facts stands.
          subst (λ (f : Frame). Misses g.C.Connection.does known f c.in-Err.fault facts old.in_flight new) its
          (fails_miss g.C.Connection.does known c.in-Some-numbered_frame.frame c.in-Err.fault facts old.in_flight new (c.in-Err.ensures.failed known facts stands));
    })
    c.client_fault_of.ensures
