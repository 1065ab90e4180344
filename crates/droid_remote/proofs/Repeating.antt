-- A known request that was written again.
use Rattle.std.proofs.Common.{◌≡◌, ◌++◌, ◌∷◌, [], true, List, Contains, Some, inl, inr, refl, sym, subst}
use Rattle.std.proofs.lemmas.List.Elements.{Contains-append_left, Contains-push}
use Rattle.droid_frame.specs.declared.frame.Frame.{Frame}
use Rattle.droid_remote.specs.Events.{Event, Fact, Written, Received, facts_after}
use Rattle.droid_remote.specs.Moves.{Repeats}
use Rattle.droid_remote.specs.TransferFaults.{Explains, IsLost, IsRestarted}
use Rattle.droid_remote.specs.Vouching.{IsRepeated, IsVouched}
use Rattle.droid_remote.specs.declared.transfer.known_requests.Known.{Known}
use Rattle.droid_remote.specs.declared.transfer.known_requests.KnownRequests.{KnownRequests}
use Rattle.droid_remote.specs.declared.transfer.transfer_fault.TransferFault.{TransferFault}
use Rattle.droid_remote.specs.declared.transfer.transfer_fault.TransferFault.TheVariants.{Memory, Broken, Stranger, Restarted, Refused, Busy}
use Rattle.droid_remote.proofs.Going.{facts_append}

pub kept_both : (facts : List Fact) (request came : Frame) (fact : Fact) → Contains facts fact → Contains ((facts ++ Written request ∷ []) ++ Received came ∷ []) fact
kept_both facts request came fact there = Contains-append_left (facts ++ Written request ∷ []) (Received came ∷ []) fact (Contains-append_left facts (Written request ∷ []) fact there)

pub repeated_now : (facts : List Fact) (known one : Known) (came : Frame) → came ≡ known.reply → Some known ≡ Some one → IsRepeated ((facts ++ Written known.request ∷ []) ++ Received came ∷ []) one
repeated_now facts known one came same is =
    let now = (facts ++ Written known.request ∷ []) ++ Received came ∷ [] in
    subst (λ (k : Known). IsRepeated now k) (cc)
    (record {
      written = Contains-append_left (facts ++ Written known.request ∷ []) (Received came ∷ []) (Written known.request) (Contains-push facts (Written known.request));
      received = subst (λ (f : Frame). Contains now (Received f)) same (Contains-push (facts ++ Written known.request ∷ []) (Received came));
    })

pub explains_lost : (known : KnownRequests) (Is : Frame → Type 0) (facts : List Fact) (events : List Event) (fault : TransferFault) → IsLost fault → IsRestarted known events → Explains fault known Is [] facts events
explains_lost known Is facts events Memory lost restarted = tt
explains_lost known Is facts events Restarted lost restarted = restarted
explains_lost known Is facts events Broken lost restarted = absurd lost
explains_lost known Is facts events Stranger lost restarted = absurd lost
explains_lost known Is facts events (Refused refusal) lost restarted = absurd lost
explains_lost known Is facts events Busy lost restarted = absurd lost

module _ {C : Type 0} (does : C → Event → C → Type 0) (known : KnownRequests) (waiting : List Frame) (facts : List Fact) (old now new : C) where
  -- both known requests were repeated
  pub vouched_both : (first : Repeats does known waiting known.profile true facts old now) (second : Repeats does known waiting known.change true (facts_after facts first.goes.events) now new)
      → IsVouched known (facts_after facts (first.goes.events ++ second.goes.events))
  vouched_both first second one is =
      subst (λ (l : List Fact). IsRepeated l one) (sym (facts_append facts first.goes.events second.goes.events))
      (elim is [
        | inl profile ↦ let early = first.repeated refl one profile in
            record { written = second.kept refl (Written one.request) early.written; received = second.kept refl (Received one.reply) early.received }
        | inr change ↦ second.repeated refl one change
      ])
