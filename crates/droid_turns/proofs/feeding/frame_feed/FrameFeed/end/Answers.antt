use Rattle.std.proofs.Common.{◌≡◌, List, [], ℕ, Ok, Err, IfErr, OnOk, ap, subst}
use Rattle.droid_frame.specs.Streams.{BeginsNoFrame, why}
use Rattle.droid_frame.specs.declared.streams.arrival.Arrival.TheVariants as arrivals
use Rattle.droid_turns.specs.Held.{Held}
use Rattle.droid_turns.proofs.feeding.frame_feed.FrameFeed.end.Goals as goal

pub returns-clause-rest : goal.returns-clause-rest
returns-clause-rest c = subst BeginsNoFrame (ap (λ (h : Held). h.bytes) c.self.view_is) c.self.invariant.no_frame

pub returns-clause-closed : goal.returns-clause-closed
returns-clause-closed c = subst (λ (l : List ℕ). OnOk c.end.result (why l ≡ Ok arrivals.End)) (ap (λ (h : Held). h.bytes) c.self.view_is) c.end.ensures.closed

pub returns-clause-fault : goal.returns-clause-fault
returns-clause-fault c = subst (λ (l : List ℕ). IfErr c.end.result (λ fault. why l ≡ Err fault)) (ap (λ (h : Held). h.bytes) c.self.view_is) c.end.ensures.fault

pub returns-clause-empty : goal.returns-clause-empty
returns-clause-empty c = subst (λ (l : List ℕ). OnOk c.end.result (l ≡ [])) (ap (λ (h : Held). h.bytes) c.self.view_is) c.end.ensures.empty
