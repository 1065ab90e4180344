use Rattle.std.proofs.Common.{ℕ, List, ap, arith, refl, subst, ◌∙◌}
use Rattle.droid_frame.specs.declared.frame.Frame.{Frame}
use Rattle.droid_remote.specs.Calls.{Waits}
use Rattle.droid_remote.specs.Numbered.{frame_of}
use Rattle.droid_remote.specs.SenderCalls.{HasMissed, Misses}
use Rattle.droid_remote.proofs.sender.SenderClient.ask.Goals as goal

pub returns-in-Ok-clause-answered : goal.returns-in-Ok-clause-answered
returns-in-Ok-clause-answered g c = λ request spells.
    let old = c.args.self.now in
    let new = c.ask_patiently.new.in_flight in
    let numbered = c.in-Some-numbered_frame.ensures request spells in
    let its = numbered.0 ∙ ap (λ (n : List ℕ). frame_of old.client n c.args.attempt request) c.as_str.ensures.value in
    record {
      asked = record { attempt_fits = let fits = c.ranges.attempt in omega (arith, fits); has_spelling = spells.has_spelling; submitted = numbered.1 };
      goes_on = record { same_client = refl; same_name = refl; was_going = c.in-None.is; is_going = c.in-None.is };
      waits = λ known facts stands.
          subst (λ (f : Frame). Waits g.C.Connection.does known f c.in-Ok.reply facts old.in_flight new) its (c.in-Ok.ensures.answered known facts stands);
      free = c.in-Ok.ensures.free;
    }

pub returns-in-Err-clause-failed : goal.returns-in-Err-clause-failed
returns-in-Err-clause-failed g c = λ request spells.
    let old = c.args.self.now in
    let new = c.ask_patiently.new.in_flight in
    let numbered = c.in-Some-numbered_frame.ensures request spells in
    let its = numbered.0 ∙ ap (λ (n : List ℕ). frame_of old.client n c.args.attempt request) c.as_str.ensures.value in
    HasMissed c.in-Err.fault
    (record {
      asked = record { attempt_fits = let fits = c.ranges.attempt in omega (arith, fits); has_spelling = spells.has_spelling; submitted = numbered.1 };
      same_client = refl;
      same_name = refl;
      was_going = c.in-None.is;
      stopped = c.stop_of-self.ensures;
      misses = λ known facts stands.
          subst (λ (f : Frame). Misses g.C.Connection.does known f c.in-Err.fault facts old.in_flight new) its (c.in-Err.ensures.missed known facts stands);
    })
    c.client_fault_of.ensures
