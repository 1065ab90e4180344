-- Loops over all lanes.
use Rattle.std.proofs.Common.{◌≡◌, inl, inr, ℕ, zero, suc, ◌+◌, ◌<◌, ◌≤◌, false, List, [], ◌∷◌, ◌++◌, length, set, get_or, slice_get, Some, Contains, length-set, refl, sym, ap, subst, ◌∙◌, arith}
use Rattle.std.proofs.lemmas.Bool.Decides.{leb_tells}
use Rattle.std.proofs.lemmas.List.Elements.{Contains-append_left, Contains-push}
use Rattle.std.proofs.lemmas.Option.{slice_get_read, slice_get_within}
use Rattle.droid_profile.specs.LaneSteps.{AllPass, Passes, PassedBelow}
use Rattle.droid_profile.specs.declared.lanes.file_lane.FileLane.{FileLane}
use Rattle.droid_profile.proofs.Places.{item_at, same_item, set_else, set_here}

-- ---- all lanes pass on

pub none_passed : (lanes : List FileLane) (count : ℕ) → PassedBelow lanes lanes count 0
none_passed lanes count = record { counted = refl; each = λ j lane below there. absurd (omega (arith, below)); still = λ j beyond. refl }

pub one_passed : (old now : List FileLane) (count j : ℕ) (lane after : FileLane) → PassedBelow old now count j → j < length now → slice_get now j ≡ Some lane → Passes lane after count → PassedBelow old (set now j after) count (j + 1)
one_passed old now count j lane after passed within there passes = record {
  counted = length-set now j after ∙ passed.counted;
  each = λ i its below its_there. elim (leb_tells j i) [
    | inl t ↦
        let same : i ≡ j = omega (arith, t.1, below) in
        let was : slice_get old j ≡ Some lane = sym (passed.still j (omega arith)) ∙ there in
        let is : lane ≡ its = same_item (slice_get old j) lane its was (subst (λ (k : ℕ). slice_get old k ≡ Some its) same its_there) in
        record {
          after = after;
          there = subst (λ (k : ℕ). slice_get (set now j after) k ≡ Some after) (sym same) (set_here now j after within);
          passes = subst (λ (l : FileLane). Passes l after count) is passes;
        }
    | inr t ↦
        let before = passed.each i its t.1 its_there in
        record { after = before.after; there = set_else now j i after (λ same. absurd (omega (arith, same, t.1))) ∙ before.there; passes = before.passes }
  ];
  still = λ i beyond. set_else now j i after (λ same. absurd (omega (arith, same, beyond))) ∙ passed.still i (omega (arith, beyond));
}

pub all_passed : (old new : List FileLane) (count n : ℕ) → PassedBelow old new count n → length old ≤ n → AllPass old new count
all_passed old new count n passed all = record {
  counted = passed.counted;
  each = λ j lane there. passed.each j lane (omega (arith, all, slice_get_within old j lane there)) there;
  back = λ j after there.
      let at = item_at old j (omega (arith, passed.counted, slice_get_within new j after there)) in
      let next = passed.each j at.0 (omega (arith, all, slice_get_within old j at.0 at.1)) at.1 in
      record { lane = at.0; there = at.1; passes = subst (λ (l : FileLane). Passes at.0 l count) (same_item (slice_get new j) next.after after next.there there) next.passes };
}

-- ---- lanes that are made, and lanes that are looked at

pub limits_push : (lanes : List FileLane) (lane : FileLane) (limit : ℕ) → ((j : ℕ) (its : FileLane) → slice_get lanes j ≡ Some its → its.ends.limit ≡ limit) → lane.ends.limit ≡ limit
    → (j : ℕ) (its : FileLane) → slice_get (lanes ++ lane ∷ []) j ≡ Some its → its.ends.limit ≡ limit
limits_push [] lane limit all is zero its there = ap (λ (l : FileLane). l.ends.limit) (same_item (Some lane) its lane there refl) ∙ is
limits_push [] lane limit all is (suc j) its there = absurd cc
limits_push (l ∷ ls) lane limit all is zero its there = all zero its there
limits_push (l ∷ ls) lane limit all is (suc j) its there = limits_push ls lane limit (λ k x at. all (suc k) x at) is j its there

pub idle_more : (lanes : List FileLane) (n : ℕ) (lane : FileLane) → ((j : ℕ) (its : FileLane) → j < n → slice_get lanes j ≡ Some its → its.busy ≡ false) → n < length lanes → lane ≡ get_or lanes n lane → lane.busy ≡ false
    → (j : ℕ) (its : FileLane) → j < n + 1 → slice_get lanes j ≡ Some its → its.busy ≡ false
idle_more lanes n lane idle within is its_idle j its below there = elim (leb_tells n j) [
  | inl t ↦
      let same : j ≡ n = omega (arith, t.1, below) in
      ap (λ (l : FileLane). l.busy) (same_item (slice_get lanes n) its lane (subst (λ (k : ℕ). slice_get lanes k ≡ Some its) same there) (slice_get_read lanes (length lanes) n lane refl within is)) ∙ its_idle
  | inr t ↦ idle j its t.1 there
]

-- ---- places that are listed

pub listed_more : (xs : List ℕ) (n : ℕ) → ((place : ℕ) → place < n → Contains xs place) → (place : ℕ) → place < n + 1 → Contains (xs ++ n ∷ []) place
listed_more xs n all place below = elim (leb_tells n place) [
  | inl t ↦
      let same : n ≡ place = omega (arith, t.1, below) in
      subst (Contains (xs ++ n ∷ [])) same (Contains-push xs n)
  | inr t ↦ Contains-append_left xs (n ∷ []) place (all place t.1)
]
