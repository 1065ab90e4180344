-- Words whose bits were moved.
use Rattle.std.proofs.Common.{◌≡◌, ◌↔◌, ◌⊎◌, ℕ, ◌+◌, ◌*◌, ◌-◌, ◌/◌, ◌%◌, ◌^◌, ◌<◌, ◌≤◌, List, length, get_or, set, length-set, inl, inr, ⊎_elim, sym, ◌∙◌, arith}
use Rattle.std.proofs.lemmas.Bool.{cases_lt, cases_eq}
use Rattle.std.proofs.lemmas.List.{get_or-set_same, get_or-set_other}
use Rattle.std.proofs.lemmas.Nat.Bits.{bit_at-zero, bit_at_above}
use Rattle.std.specs.Prelude.{bit_or}
use Rattle.std.specs.Int.{bit_at}
use Rattle.droid_pattern.specs.Places.{IsPlace, Moves}
use Rattle.droid_pattern.proofs.BitLemmas.{bit_up, bit_up_none, bit_down, place_at, place_below, place_same, place_bit, or_bits}

-- the word at place j of words that were moved by n
abbrev pub IsMovedWord : List ℕ → ℕ → ℕ → ℕ → Type 0
IsMovedWord old n j w = (i : ℕ) → i < 64 → (bit_at w i ≡ 1) ↔ ((n ≤ 64 * j + i) × IsPlace old (64 * j + i - n))

-- the same with the old word beside it
abbrev pub IsSpreadWord : List ℕ → ℕ → ℕ → ℕ → Type 0
IsSpreadWord old n j w = (i : ℕ) → i < 64 → (bit_at w i ≡ 1) ↔ ((bit_at (get_or old j 0) i ≡ 1) ⊎ ((n ≤ 64 * j + i) × IsPlace old (64 * j + i - n)))

-- a moved word, of words that are as the old ones up to it
pub moved_as : (old now : List ℕ) (n j w : ℕ) → ((k : ℕ) → k < j + 1 → get_or now k 0 ≡ get_or old k 0) → IsMovedWord now n j w → IsMovedWord old n j w
moved_as old now n j w same says i below =
    let here = says i below in (
      λ h. let r = here.0 h in (r.0, (place_same now old (64 * j + i - n) (same ((64 * j + i - n) / 64) (omega arith))).0 r.1),
      λ r. here.1 (r.0, (place_same now old (64 * j + i - n) (same ((64 * j + i - n) / 64) (omega arith))).1 r.1),
    )

pub spread_word : (old now : List ℕ) (n j w : ℕ) → ((k : ℕ) → k < j + 1 → get_or now k 0 ≡ get_or old k 0) → IsMovedWord now n j w → IsSpreadWord old n j (bit_or (get_or now j 0) w)
spread_word old now n j w same says i below =
    let here = moved_as old now n j w same says i below in
    let both = or_bits (get_or now j 0) w i in
    let word : get_or now j 0 ≡ get_or old j 0 = same j (omega arith) in (
      λ h. ⊎_elim (λ a. inl (rw word at a)) (λ b. inr (here.0 b)) (both.0 h),
      λ h. ⊎_elim (λ (a : bit_at (get_or old j 0) i ≡ 1). both.1 (inl (rw word a))) (λ b. both.1 (inr (here.1 b))) h,
    )

-- all words are moved
pub moves_all : (old new : List ℕ) (n : ℕ) → length new ≡ length old → ((j : ℕ) → j < length new → IsMovedWord old n j (get_or new j 0))
    → (q : ℕ) → IsPlace new q ↔ ((q < 64 * length old) × ((p : ℕ) × IsPlace old p × (p + n ≤ q) × (q ≤ p + n)))
moves_all old new n len each q =
    let whole : 64 * (q / 64) + q % 64 ≡ q = omega arith in
    let bit = place_bit new q in (
      λ h.
          let below = place_below new q h in
          let r = (each (q / 64) (omega arith) (q % 64) (omega arith)).0 (bit.0 h) in
          let room : n ≤ q = rw whole at r.0 in
          (omega arith, (q - n, rw whole at r.1, omega arith, omega arith)),
      λ (below, (p, place, low, high)).
          let same : q - n ≡ p = omega arith in
          bit.1 ((each (q / 64) (omega arith) (q % 64) (omega arith)).1 (rw whole (omega arith, rw same place))),
    )

pub spreads_all : (old new : List ℕ) (n : ℕ) → length new ≡ length old → ((j : ℕ) → j < length new → IsSpreadWord old n j (get_or new j 0))
    → (q : ℕ) → IsPlace new q ↔ (IsPlace old q ⊎ ((q < 64 * length old) × (n ≤ q) × IsPlace old (q - n)))
spreads_all old new n len each q =
    let whole : 64 * (q / 64) + q % 64 ≡ q = omega arith in
    let bit = place_bit new q in
    let before = place_bit old q in (
      λ h.
          let below = place_below new q h in
          ⊎_elim (λ a. inl (before.1 a)) (λ (r : (n ≤ 64 * (q / 64) + q % 64) × IsPlace old (64 * (q / 64) + q % 64 - n)). inr (omega arith, (rw whole at r.0), (rw whole at r.1)))
          ((each (q / 64) (omega arith) (q % 64) (omega arith)).0 (bit.0 h)),
      λ h. ⊎_elim
          (λ a. let below = place_below old q a in bit.1 ((each (q / 64) (omega arith) (q % 64) (omega arith)).1 (inl (before.0 a))))
          (λ (below, room, place). bit.1 ((each (q / 64) (omega arith) (q % 64) (omega arith)).1 (inr (rw whole (room, place))))) h,
    )

-- the higher bits of a moved word come from the word that many words before
pub moved_from : (words : List ℕ) (j whole part i : ℕ) → whole ≤ j → part ≤ i → i < 64
    → (bit_at (get_or words (j - whole) 0 * 2 ^ part % 2 ^ 64) i ≡ 1) ↔ ((64 * whole + part ≤ 64 * j + i) × IsPlace words (64 * j + i - (64 * whole + part)))
moved_from words j whole part i past from below =
    let there : 64 * j + i - (64 * whole + part) ≡ 64 * (j - whole) + (i - part) = omega arith in
    let up = bit_up (get_or words (j - whole) 0) part i below from in
    let at = place_at words (j - whole) (i - part) (omega arith) in (
      λ h. (omega arith, rw there (at.1 (sym up ∙ h))),
      λ r. up ∙ at.0 (rw there at r.1),
    )

-- the lower ones from the word before that
pub moved_under : (words : List ℕ) (j whole part i : ℕ) → whole < j → i < part → part < 64
    → (bit_at (get_or words (j - whole - 1) 0 / 2 ^ (64 - part)) i ≡ 1) ↔ ((64 * whole + part ≤ 64 * j + i) × IsPlace words (64 * j + i - (64 * whole + part)))
moved_under words j whole part i past under small =
    let there : 64 * j + i - (64 * whole + part) ≡ 64 * (j - whole - 1) + (64 - part + i) = omega arith in
    let down = bit_down (get_or words (j - whole - 1) 0) (64 - part) i in
    let at = place_at words (j - whole - 1) (64 - part + i) (omega arith) in (
      λ h. (omega arith, rw there (at.1 (sym down ∙ h))),
      λ r. down ∙ at.0 (rw there at r.1),
    )

-- a word that comes before the first one
pub moved_before : (words : List ℕ) (j whole part : ℕ) → j < whole → IsMovedWord words (64 * whole + part) j 0
moved_before words j whole part before i below = (λ h. absurd (omega (arith, bit_at-zero i)), λ r. absurd (omega arith))

-- a word that takes nothing from the word before
pub moved_high : (words : List ℕ) (j whole part : ℕ) → whole ≤ j → part < 64 → (part ≡ 0) ⊎ (j ≡ whole)
    → IsMovedWord words (64 * whole + part) j (get_or words (j - whole) 0 * 2 ^ part % 2 ^ 64)
moved_high words j whole part past small alone i below =
    elim (cases_lt i part) [
      | inl under ↦
          let none = bit_up_none (get_or words (j - whole) 0) part i below under in (
            λ h. absurd (omega arith),
            λ r. absurd (⊎_elim (λ e. omega arith) (λ e. omega (arith, r.0)) alone),
          )
      | inr from ↦ moved_from words j whole part i past from below
    ]

-- a word that does
pub moved_both : (words : List ℕ) (j whole part : ℕ) → whole < j → part < 64 → get_or words (j - whole - 1) 0 < 2 ^ 64
    → IsMovedWord words (64 * whole + part) j (bit_or (get_or words (j - whole) 0 * 2 ^ part % 2 ^ 64) (get_or words (j - whole - 1) 0 / 2 ^ (64 - part)))
moved_both words j whole part past small fits i below =
    let both = or_bits (get_or words (j - whole) 0 * 2 ^ part % 2 ^ 64) (get_or words (j - whole - 1) 0 / 2 ^ (64 - part)) i in
    elim (cases_lt i part) [
      | inl under ↦
          let none = bit_up_none (get_or words (j - whole) 0) part i below under in
          let low = moved_under words j whole part i past under small in (
            λ h. ⊎_elim (λ e. absurd (omega arith)) (λ e. low.0 e) (both.0 h),
            λ r. both.1 (inr (low.1 r)),
          )
      | inr from ↦
          let high = moved_from words j whole part i (omega arith) from below in
          let none = bit_down (get_or words (j - whole - 1) 0) (64 - part) i ∙ bit_at_above (get_or words (j - whole - 1) 0) 64 (64 - part + i) fits (omega arith) in (
            λ h. ⊎_elim (λ e. high.0 e) (λ e. absurd (omega arith)) (both.0 h),
            λ r. both.1 (inl (high.1 r)),
          )
    ]

-- one more word is set, from the last one down
pub set_more : (W : ℕ → ℕ → Type 0) (old now : List ℕ) (j w : ℕ) → j < length now → length now ≡ length old
    → ((k : ℕ) → j + 1 ≤ k → k < length now → W k (get_or now k 0)) → ((k : ℕ) → k < j + 1 → get_or now k 0 ≡ get_or old k 0) → W j w
    → (length (set now j w) ≡ length old)
    × ((k : ℕ) → j ≤ k → k < length (set now j w) → W k (get_or (set now j w) k 0))
    × ((k : ℕ) → k < j → get_or (set now j w) k 0 ≡ get_or old k 0)
set_more W old now j w inside len done left here = (
  length-set now j w ∙ len,
  λ k from below.
      elim (cases_eq k j) [
        | inl same ↦ rw (same, get_or-set_same now j w 0 inside) here
        | inr other ↦ rw (get_or-set_other now j k w 0 other) (done k (omega arith) (omega (arith, length-set now j w)))
      ],
  λ k under. get_or-set_other now j k w 0 (λ e. absurd (omega arith)) ∙ left k (omega arith),
)

-- the same from the first one up
pub set_up : (W : ℕ → ℕ → Type 0) (old now : List ℕ) (j w : ℕ) → j < length now → length now ≡ length old
    → ((k : ℕ) → k < j → W k (get_or now k 0)) → ((k : ℕ) → j ≤ k → get_or now k 0 ≡ get_or old k 0) → W j w
    → (length (set now j w) ≡ length old)
    × ((k : ℕ) → k < j + 1 → W k (get_or (set now j w) k 0))
    × ((k : ℕ) → j + 1 ≤ k → get_or (set now j w) k 0 ≡ get_or old k 0)
set_up W old now j w inside len done left here = (
  length-set now j w ∙ len,
  λ k below.
      elim (cases_eq k j) [
        | inl same ↦ rw (same, get_or-set_same now j w 0 inside) here
        | inr other ↦ rw (get_or-set_other now j k w 0 other) (done k (omega arith))
      ],
  λ k over. get_or-set_other now j k w 0 (λ e. absurd (omega arith)) ∙ left k (omega arith),
)

-- no place is more than none behind
pub widen_none : (words : List ℕ) → Moves words words 0 0
widen_none words q = (
  λ h. (place_below words q h, (q, h, omega arith, omega arith)),
  λ (below, (p, place, low, high)). let same : q ≡ p = omega arith in rw same place,
)

-- places up to `done` behind, and those `count` behind these
pub widen_more : (old now new : List ℕ) (done count : ℕ) → length now ≡ length old → count ≤ done + 1 → Moves old now 0 done
    → ((q : ℕ) → IsPlace new q ↔ (IsPlace now q ⊎ ((q < 64 * length now) × (count ≤ q) × IsPlace now (q - count))))
    → Moves old new 0 (done + count)
widen_more old now new done count len near before step q =
    let so_far = before q in
    let here = step q in (
      λ h. ⊎_elim
          (λ a. let r = so_far.0 a in (r.0, (r.1.0, r.1.1, omega (arith, r.1.2), omega (arith, r.1.3))))
          (λ (r : (q < 64 * length now) × (count ≤ q) × IsPlace now (q - count)).
          let w = (before (q - count)).0 r.2 in (omega (arith, r.0), (w.1.0, w.1.1, omega (arith, w.1.2, r.1), omega (arith, w.1.3, r.1)))) (here.0 h),
      λ (below, (p, place, low, high)).
          elim (cases_lt (p + done) q) [
            | inl far ↦ here.1 (inr (omega arith, omega arith, (before (q - count)).1 (omega arith, (p, place, omega arith, omega arith))))
            | inr in_reach ↦ here.1 (inl (so_far.1 (below, (p, place, low, in_reach))))
          ],
    )
