use Rattle.std.proofs.Common.{◌≡◌, ◌<◌, ◌+◌, ◌^◌, ℕ, List, [], ◌∷◌, ◌++◌, length, refl, sym, ap, ◌∙◌, arith}
use Rattle.std.proofs.lemmas.Grind.{common_steps}
use Rattle.std.proofs.lemmas.List.{length-append}
use Rattle.droid_frame.specs.declared.frame.Frame.{Frame}
use Rattle.droid_client.specs.declared.slot.Slot.{Slot}
use Rattle.droid_client.specs.Cores.{new_slot}
use Rattle.droid_client.specs.Places.{KeepsPlaces, places_from}
use Rattle.droid_client.proofs.PendingPlaces.{pushed}
use Rattle.droid_client.proofs.client.Client.submit.Goals as goal

-- one slot more, and its place
one_more : (first place : ℕ) (slots more : List Slot) (pending places : List ℕ) (slot : Slot) (frame : Frame) → KeepsPlaces first slots pending → slot ≡ new_slot frame
    → place ≡ length slots → first + place < 2 ^ 63 → more ≡ slots ++ slot ∷ [] → places ≡ pending ++ place ∷ [] → KeepsPlaces first more places
one_more first place slots more pending places slot frame sound is counted below pushes adds =
    let long : length more ≡ length slots + 1 = ap (λ (slots : List Slot). length slots) pushes ∙ length-append slots (slot ∷ []) in
    record {
      numbers = omega (arith, below, counted, long);
      places = adds
          ∙ ap (λ (places : List ℕ). places ++ place ∷ []) sound.places
          ∙ ap (λ (n : ℕ). places_from 0 slots ++ n ∷ []) (omega (arith, counted))
          ∙ sym (ap (places_from 0) (pushes ∙ ap (λ (slot : Slot). slots ++ slot ∷ []) is) ∙ pushed 0 slots (new_slot frame) frame refl);
    }

pub invariant_of-self-2 : goal.invariant_of-self-2
invariant_of-self-2 c =
    let inside = c.self.inside in
    let pushes : c.push.new.self.items ≡ c.reserve.new.self.items ++ c.new.result ∷ [] = grind (arith, common_steps) in
    one_more inside.first c.len-place.result inside.slots.items c.push.new.self.items inside.pending.items c.push_back_reserved.new.self.items c.new.result c.in_ok-frame.frame c.self.invariant c.new.ensures
    (c.len-place.ensures ∙ inside.slots.ok.0) (omega (arith, c.if-number-ge-NUMBER_LIMIT.false))
    (pushes ∙ ap (λ (slots : List Slot). slots ++ c.new.result ∷ []) c.reserve.ensures.items)
    (c.push_back_reserved.ensures.items ∙ ap (λ (places : List ℕ). places ++ c.len-place.result ∷ []) c.reserve-2.ensures.items)
