-- An export that is begun again until all its parts come.
use Rattle.std.proofs.Common.{◌≡◌, ℕ, ◌+◌, ◌≤◌, List, [], ap, subst}
use Rattle.droid_lists.specs.declared.spelling.text_fault.TextFault.TheVariants.{Memory, Wrong}
use Rattle.droid_remote.specs.Events.{Event, Fact, facts_after}
use Rattle.droid_remote.specs.Stages.{StandsOn}
use Rattle.droid_remote.specs.declared.transfer.in_flight.InFlight.{InFlight}
use Rattle.droid_remote.specs.declared.transfer.known_requests.KnownRequests.{KnownRequests}
use Rattle.droid_remote.specs.Exports.{Disturbs, Exports}
use Rattle.droid_remote.specs.declared.sender.Sender.{Sender}
use Rattle.droid_cmd_submit.specs.ProfileComparisons.{Again, EndsOnce, EndsReading, HasBegun, NotYet, ReadsExport}
use Rattle.droid_cmd_submit.specs.declared.profile_comparison.ComparisonFault.{ComparisonFault}
use Rattle.droid_cmd_submit.specs.declared.profile_comparison.ComparisonFault.TheVariants.{Disturbed, NoExport, TooLong, Unchecked}

module _ {C : Type 0} (does : C → Event → C → Type 0) (client : ℕ) (name : List ℕ) (profile : ℕ) (known : KnownRequests) (facts : List Fact) (old : InFlight C) where
  pub none_begun : old.waiting.items ≡ [] → StandsOn known facts old → HasBegun does client name profile known 0 facts old old
  none_begun none stands = record { facts_now = facts; begun = NotYet; none = none; stands = stands }

  module _ (count : ℕ) (now : InFlight C) (before : HasBegun does client name profile known count facts old now) where
    pub one_more_begun : (next : InFlight C) → Disturbs client name profile does known before.facts_now now next → HasBegun does client name profile known (count + 1) facts old next
    one_more_begun next disturbs = record {
      facts_now = facts_after before.facts_now disturbs.asks.goes.events;
      begun = Again before.begun disturbs;
      none = disturbs.asks.none;
      stands = disturbs.asks.stands_on;
    }

    pub all_read : (new : InFlight C) (csv : List ℕ) → Exports client name profile does known before.facts_now now new [] csv → ReadsExport does client name profile known facts old new csv
    all_read new csv exports = record { count = count; facts_now = before.facts_now; now = now; begun = before.begun; exports = exports }

    pub once_ended : (fault : ComparisonFault) (new : InFlight C) → EndsOnce does client name profile known fault before.facts_now now new → EndsReading does client name profile known fault facts old new
    once_ended (NoExport fault) new ends = record { count = count; facts_now = before.facts_now; now = now; begun = before.begun; ends = ends }
    once_ended (TooLong total) new ends = record { count = count; facts_now = before.facts_now; now = now; begun = before.begun; ends = ends }
    once_ended (Unchecked Memory) new ends = record { count = count; facts_now = before.facts_now; now = now; begun = before.begun; ends = ends }
    once_ended (Unchecked (Wrong number column)) new ends = absurd ends
    once_ended Disturbed new ends = absurd ends

    pub all_disturbed : 100 ≤ count → EndsReading does client name profile known Disturbed facts old now
    all_disturbed many = (count, before.facts_now, many, before.begun)

-- a sender of one client and name asks the same
module _ {C : Type 0} (one other : Sender C) (same : one ≡ record other { in_flight = one.in_flight }) where
  pub on_client : (P : ℕ → List ℕ → Type 0) → P one.client one.name → P other.client other.name
  on_client P holds =
      let client : one.client ≡ other.client = ap (λ (s : Sender C). s.client) same in
      let name : one.name ≡ other.name = ap (λ (s : Sender C). s.name) same in
      subst (λ (n : List ℕ). P other.client n) name (subst (λ (k : ℕ). P k one.name) client holds)
