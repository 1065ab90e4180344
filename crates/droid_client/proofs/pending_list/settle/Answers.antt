use Rattle.std.proofs.Common.{◌≡◌, ℕ, ◌<◌, ◌≤◌, List, length, get_or, Option, Some, None, IsSome, Result, Ok, Err, ap, ◌∙◌, arith, inl, inr}
use Rattle.std.specs.Prelude.{OnSome}
use Rattle.std.specs.List.{remove}
use Rattle.std.specs.List.Sorted.{IsBinarySearchResult}
use Rattle.std.specs.Ordering.{nat_cmp}
use Rattle.std.specs.Result.{MatchResult}
use Rattle.std.proofs.lemmas.Bool.Decides.{leb_tells}
use Rattle.std.proofs.lemmas.List.Sorted.{searched}
use Rattle.std.proofs.lemmas.Option.{slice_get_within}
use Rattle.droid_client.specs.declared.slot.Slot.{Slot}
use Rattle.droid_client.specs.Places.{places_from}
use Rattle.droid_client.proofs.PendingPlaces.{found, gone, rise_all}
use Rattle.droid_client.proofs.pending_list.settle.Goals as goal

at_some : {X : Type 0} (r : Option X) (P : Type 0) → IsSome r → OnSome r P → P
at_some None P some on = absurd cc
at_some (Some x) P some on = on

abbrev Found : List ℕ → ℕ → Result ℕ ℕ → Type 0
Found places place result =
    MatchResult result (λ i. (i < length places) × (get_or places i 0 ≡ place))
    (λ i. (i ≤ length places) × ((k : ℕ) → k < i → get_or places k 0 < place) × ((k : ℕ) → i ≤ k → k < length places → place < get_or places k 0))

-- what the search says of the places of the pending requests
searches : (places : List ℕ) (place : ℕ) (result : Result ℕ ℕ) (slots : List Slot) → places ≡ places_from 0 slots → IsBinarySearchResult (λ y. nat_cmp y place) places result → Found (places_from 0 slots) place result
searches places place result slots are search =
    searched (places_from 0 slots) place result (rw (← are) search) (rise_all 0 slots)

pub returns-in-Ok : goal.returns-in-Ok
returns-in-Ok c slots slot are pending answered =
    let at = c.in-Ok.at in
    let place = c.args.place in
    let all = searches c.args.pending.now.items place c.binary_search.result slots are c.binary_search.ensures.position in
    let here : Found (places_from 0 slots) place (Ok at) = rw c.in-Ok.is at all in
    let left = at_some c.remove.result _ (c.remove.ensures.variant.1 c.in-Ok.ensures.bound) c.remove.ensures.items in
    left ∙ ap (λ (places : List ℕ). remove places at) are
    ∙ gone 0 slots place slot (slice_get_within slots place pending.0 pending.1) answered at here.0 (omega (arith, here.1))

-- the place is there
lost : (places : List ℕ) (place i : ℕ) → Found places place (Err i) → (k : ℕ) × (k < length places) × (get_or places k 0 ≡ place) → ⊥
lost places place i is there =
    elim (leb_tells i there.0) [
      | inl after ↦ let high = is.2 there.0 after.1 there.1 in omega (arith, high, there.2)
      | inr before ↦ let low = is.1 there.0 before.1 in omega (arith, low, there.2)
    ]

pub returns-in_default : goal.returns-in_default
returns-in_default c slots slot are pending answered =
    let all = searches c.args.pending.now.items c.args.place c.binary_search.result slots are c.binary_search.ensures.position in
    let here : Found (places_from 0 slots) c.args.place (Err c.in_default.field-0) = rw c.in_default.is at all in
    let there = found 0 slots c.args.place pending.0 pending.1 pending.2 in
    absurd (lost (places_from 0 slots) c.args.place c.in_default.field-0 here (there.0, there.1, omega (arith, there.2)))
