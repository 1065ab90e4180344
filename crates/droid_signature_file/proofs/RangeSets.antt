-- What the patterns of a range of several bytes match.
use Rattle.std.proofs.Common.{◌≡◌, ◌↔◌, ◌⊎◌, ℕ, zero, suc, ◌+◌, ◌-◌, ◌*◌, ◌<◌, ◌≤◌, Bool, true, false, List, [], ◌∷◌, ◌++◌, length, map, inl, inr, ⊎_elim, refl, sym, ap, ◌∙◌, arith}
use Rattle.std.specs.Prelude.{if◌then◌else◌, ◌==◌, nat_lt}
use Rattle.std.proofs.lemmas.Bool.{cases_order, eqb-true, eqb-false, ltb-true, ltb-false}
use Rattle.droid_pattern.specs.Patterns.{Element, Byte, Range, Lang}
use Rattle.droid_signature_file.specs.Terms.{AreBytes, number_after}
use Rattle.droid_signature_file.specs.Expansions.{MatchesAny, with_byte, any_bytes, range_before, upward_from, up_to, ranges}
use Rattle.droid_signature_file.proofs.PatternSets.{any_append}
use Rattle.droid_signature_file.proofs.BigEndian.{less_after}

-- a byte of a range, and more behind it
Range-cons : (low high : ℕ) (es : List Element) (y : ℕ) (bytes : List ℕ) → Lang (Range low high ∷ es) (y ∷ bytes) ↔ ((low ≤ y) × (y ≤ high) × Lang es bytes)
Range-cons low high es y bytes = (
  λ (front, back, is, (x, one, from, to), rest).
      let whole : y ∷ bytes ≡ x ∷ back = is ∙ ap (λ z. z ++ back) one in
      let head : y ≡ x = cc in
      let tail : bytes ≡ back = cc in
      (omega arith, omega arith, rw tail rest),
  λ (from, to, rest). (y ∷ [], bytes, refl, (y, refl, from, to), rest),
)

Range-nil : {B : Type 0} (low high : ℕ) (es : List Element) → Lang (Range low high ∷ es) [] → B
Range-nil low high es (front, back, is, (x, one, from, to), rest) =
    let whole : [] ≡ x ∷ back = is ∙ ap (λ z. z ++ back) one in absurd cc

Byte-cons : (b : ℕ) (es : List Element) (y : ℕ) (bytes : List ℕ) → Lang (Byte b ∷ es) (y ∷ bytes) ↔ ((y ≡ b) × Lang es bytes)
Byte-cons b es y bytes = (
  λ (front, back, is, one, rest).
      let whole : y ∷ bytes ≡ b ∷ back = is ∙ ap (λ z. z ++ back) one in
      let head : y ≡ b = cc in
      let tail : bytes ≡ back = cc in
      (head, rw tail rest),
  λ (same, rest). (y ∷ [], bytes, refl, ap (λ z. z ∷ []) same, rest),
)

Byte-nil : {B : Type 0} (b : ℕ) (es : List Element) → Lang (Byte b ∷ es) [] → B
Byte-nil b es (front, back, is, one, rest) =
    let whole : [] ≡ b ∷ back = is ∙ ap (λ z. z ++ back) one in absurd cc

-- any bytes
free : (count : ℕ) (bytes : List ℕ) → Lang (any_bytes count) bytes ↔ ((length bytes ≡ count) × AreBytes bytes)
free zero [] = (λ _. (refl, tt), λ _. refl)
free zero (y ∷ bytes) = (λ e. absurd (omega (arith, ap length e)), λ h. absurd (let long = h.0 in omega arith))
free (suc count) [] = (λ h. Range-nil 0 255 (any_bytes count) h, λ h. absurd (let long = h.0 in omega arith))
free (suc count) (y ∷ bytes) =
    let here = Range-cons 0 255 (any_bytes count) y bytes in
    let more = free count bytes in (
      λ h. let (low, high, rest) = here.0 h in let (long, all) = more.0 rest in (omega arith, (omega arith, all)),
      λ (long, all). let small : y < 256 = all.0 in here.1 (omega arith, omega arith, more.1 (omega arith, all.1)),
    )

-- a byte in front of patterns
fronted : (b : ℕ) (patterns : List (List Element)) (y : ℕ) (bytes : List ℕ) → MatchesAny (with_byte b patterns) (y ∷ bytes) ↔ ((y ≡ b) × MatchesAny patterns bytes)
fronted b [] y bytes = (λ none. absurd none, λ h. absurd h.1)
fronted b (es ∷ patterns) y bytes =
    let here = Byte-cons b es y bytes in
    let more = fronted b patterns y bytes in (
      λ h. ⊎_elim (λ one. let w = here.0 one in (w.0, inl w.1)) (λ other. let w = more.0 other in (w.0, inr w.1)) h,
      λ (same, h). ⊎_elim (λ one. inl (here.1 (same, one))) (λ other. inr (more.1 (same, other))) h,
    )

fronted_nil : {B : Type 0} (b : ℕ) (patterns : List (List Element)) → MatchesAny (with_byte b patterns) [] → B
fronted_nil b [] none = absurd none
fronted_nil b (es ∷ patterns) (inl one) = Byte-nil b es one
fronted_nil b (es ∷ patterns) (inr other) = fronted_nil b patterns other

between_where : (t : Bool) (low end count y : ℕ) (bytes : List ℕ) → (t ≡ true → low < end) → (t ≡ false → end ≤ low)
    → MatchesAny (if t then (Range low (end - 1) ∷ any_bytes count) ∷ [] else []) (y ∷ bytes) ↔ ((low ≤ y) × (y < end) × (length bytes ≡ count) × AreBytes bytes)
between_where true low end count y bytes holds fails =
    let some : low < end = holds refl in
    let here = Range-cons low (end - 1) (any_bytes count) y bytes in
    let more = free count bytes in (
      λ h. ⊎_elim (λ one. let (from, to, rest) = here.0 one in let (long, all) = more.0 rest in (from, omega arith, long, all)) (λ none. absurd none) h,
      λ (from, to, long, all). inl (here.1 (from, omega arith, more.1 (long, all))),
    )
between_where false low end count y bytes holds fails =
    let none : end ≤ low = fails refl in
    (λ h. absurd h, λ (from, to, long, all). absurd (omega arith))

between : (low end count y : ℕ) (bytes : List ℕ) → MatchesAny (range_before low end count) (y ∷ bytes) ↔ ((low ≤ y) × (y < end) × (length bytes ≡ count) × AreBytes bytes)
between low end count y bytes = between_where (nat_lt low end) low end count y bytes (ltb-true low end) (ltb-false low end)

between_nil_where : {B : Type 0} (t : Bool) (low end count : ℕ) → MatchesAny (if t then (Range low (end - 1) ∷ any_bytes count) ∷ [] else []) [] → B
between_nil_where true low end count (inl one) = Range-nil low (end - 1) (any_bytes count) one
between_nil_where true low end count (inr none) = absurd none
between_nil_where false low end count none = absurd none

between_nil : {B : Type 0} (low end count : ℕ) → MatchesAny (range_before low end count) [] → B
between_nil low end count h = between_nil_where (nat_lt low end) low end count h

-- the bytes no less in number than the low ones
pub no_less : (low bytes : List ℕ) (n : ℕ) → AreBytes low → MatchesAny (upward_from low) bytes ↔ ((length bytes ≡ length low) × AreBytes bytes × (number_after n low ≤ number_after n bytes))
no_less [] [] n all = (λ _. (refl, tt, omega arith), λ _. inl refl)
no_less [] (y ∷ bytes) n all = (
  λ h. ⊎_elim (λ e. absurd (omega (arith, ap length e))) (λ none. absurd none) h,
  λ (long, bs, order). absurd (omega arith),
)
no_less (l ∷ low) [] n all = (
  λ h. ⊎_elim (λ a. fronted_nil l (upward_from low) a) (λ b. between_nil (l + 1) 256 (length low) b) ((any_append (with_byte l (upward_from low)) (range_before (l + 1) 256 (length low)) []).0 h),
  λ (long, bs, order). absurd (omega arith),
)
no_less (l ∷ low) (y ∷ bytes) n all =
    let small : l < 256 = all.0 in
    let split = any_append (with_byte l (upward_from low)) (range_before (l + 1) 256 (length low)) (y ∷ bytes) in
    let same_head = fronted l (upward_from low) y bytes in
    let above_head = between (l + 1) 256 (length low) y bytes in
    let more = no_less low bytes (256 * n + l) all.1 in (
      λ h. ⊎_elim
          (λ a. let (same, rest) = same_head.0 a in let (long, bs, order) = more.0 rest in (omega arith, (omega arith, bs), rw same order))
          (λ b. let (from, to, long, bs) = above_head.0 b in
          let order = less_after low bytes (256 * n + l) (256 * n + y) (sym long) all.1 (omega arith) in
          (omega arith, (to, bs), omega arith)) (split.0 h),
      λ (long, bs, order).
          let byte : y < 256 = bs.0 in
          let tail : length bytes ≡ length low = omega arith in
          split.1 (⊎_elim
          (λ same. inl (same_head.1 (sym same, more.1 (tail, bs.1, rw (sym same) at order))))
          (λ differ. ⊎_elim
          (λ above. inr (above_head.1 (omega arith, byte, tail, bs.1)))
          (λ below. absurd (let turned = less_after bytes low (256 * n + y) (256 * n + l) tail bs.1 (omega arith) in omega arith)) differ)
          (cases_order l y)),
    )

-- the bytes no more in number than the high ones
pub no_more : (high bytes : List ℕ) (n : ℕ) → AreBytes high → MatchesAny (up_to high) bytes ↔ ((length bytes ≡ length high) × AreBytes bytes × (number_after n bytes ≤ number_after n high))
no_more [] [] n all = (λ _. (refl, tt, omega arith), λ _. inl refl)
no_more [] (y ∷ bytes) n all = (
  λ h. ⊎_elim (λ e. absurd (omega (arith, ap length e))) (λ none. absurd none) h,
  λ (long, bs, order). absurd (omega arith),
)
no_more (l ∷ high) [] n all = (
  λ h. ⊎_elim (λ b. between_nil 0 l (length high) b) (λ a. fronted_nil l (up_to high) a) ((any_append (range_before 0 l (length high)) (with_byte l (up_to high)) []).0 h),
  λ (long, bs, order). absurd (omega arith),
)
no_more (l ∷ high) (y ∷ bytes) n all =
    let small : l < 256 = all.0 in
    let split = any_append (range_before 0 l (length high)) (with_byte l (up_to high)) (y ∷ bytes) in
    let same_head = fronted l (up_to high) y bytes in
    let below_head = between 0 l (length high) y bytes in
    let more = no_more high bytes (256 * n + l) all.1 in (
      λ h. ⊎_elim
          (λ b. let (from, to, long, bs) = below_head.0 b in
          let order = less_after bytes high (256 * n + y) (256 * n + l) long bs (omega arith) in
          (omega arith, (omega arith, bs), omega arith))
          (λ a. let (same, rest) = same_head.0 a in let (long, bs, order) = more.0 rest in (omega arith, (omega arith, bs), rw same order)) (split.0 h),
      λ (long, bs, order).
          let byte : y < 256 = bs.0 in
          let tail : length bytes ≡ length high = omega arith in
          split.1 (⊎_elim
          (λ same. inr (same_head.1 (sym same, more.1 (tail, bs.1, rw (sym same) at order))))
          (λ differ. ⊎_elim
          (λ above. absurd (let turned = less_after high bytes (256 * n + l) (256 * n + y) (sym tail) all.1 (omega arith) in omega arith))
          (λ below. inl (below_head.1 (omega arith, below, tail, bs.1))) differ)
          (cases_order l y)),
    )

-- the bytes of a range
abbrev pub Within : ℕ → (low high bytes : List ℕ) → Type 0
Within n low high bytes = (length bytes ≡ length low) × AreBytes bytes × (number_after n low ≤ number_after n bytes) × (number_after n bytes ≤ number_after n high)

ranges_where : (t : Bool) (l h : ℕ) (low high bytes : List ℕ) (n : ℕ) → (t ≡ true → l ≡ h) → (t ≡ false → l ≡ h → ⊥)
    → length low ≡ length high → AreBytes (l ∷ low) → AreBytes (h ∷ high) → number_after n (l ∷ low) ≤ number_after n (h ∷ high)
    → ((ys : List ℕ) (m : ℕ) → number_after m low ≤ number_after m high → MatchesAny (ranges low high) ys ↔ Within m low high ys)
    → MatchesAny (if t then with_byte l (ranges low high) else with_byte l (upward_from low) ++ range_before (l + 1) h (length low) ++ with_byte h (up_to high)) bytes ↔ Within n (l ∷ low) (h ∷ high) bytes
ranges_where true l h low high [] n holds fails same ls hs ordered more = (λ w. fronted_nil l (ranges low high) w, λ (long, bs, a, b). absurd (omega arith))
ranges_where true l h low high (y ∷ bytes) n holds fails same ls hs ordered more =
    let heads : l ≡ h = holds refl in
    let small : l < 256 = ls.0 in
    let here = fronted l (ranges low high) y bytes in
    let lower : number_after (256 * n + l) low ≤ number_after (256 * n + l) high = rw (sym heads) at ordered in
    let rest = more bytes (256 * n + l) lower in (
      λ w. let (head, tail) = here.0 w in let (long, bs, a, b) = rest.0 tail in (omega arith, (omega arith, bs), rw head a, rw (head, sym heads) b),
      λ (long, bs, a, b).
          let tail : length bytes ≡ length low = omega arith in
          let byte : y < 256 = bs.0 in
          ⊎_elim
          (λ head. here.1 (sym head, rest.1 (tail, bs.1, rw (sym head) at a, rw (sym head, sym heads) at b)))
          (λ differ. ⊎_elim
          (λ above. absurd (let turned = less_after high bytes (256 * n + h) (256 * n + y) (omega arith) hs.1 (omega arith) in omega arith))
          (λ below. absurd (let turned = less_after bytes low (256 * n + y) (256 * n + l) tail bs.1 (omega arith) in omega arith)) differ)
          (cases_order l y),
    )
ranges_where false l h low high [] n holds fails same ls hs ordered more = (
  λ w. ⊎_elim
      (λ v. ⊎_elim (λ a. fronted_nil l (upward_from low) a) (λ b. between_nil (l + 1) h (length low) b) ((any_append (with_byte l (upward_from low)) (range_before (l + 1) h (length low)) []).0 v))
      (λ c. fronted_nil h (up_to high) c)
      ((any_append (with_byte l (upward_from low) ++ range_before (l + 1) h (length low)) (with_byte h (up_to high)) []).0 w),
  λ (long, bs, a, b). absurd (omega arith),
)
ranges_where false l h low high (y ∷ bytes) n holds fails same ls hs ordered more =
    let small : l < 256 = ls.0 in
    let small' : h < 256 = hs.0 in
    let less : l < h = ⊎_elim (λ e. absurd (fails refl e)) (λ w. ⊎_elim (λ x. x) (λ turned. absurd (let bad = less_after high low (256 * n + h) (256 * n + l) (sym same) hs.1 (omega arith) in omega arith)) w) (cases_order l h) in
    let outer = any_append (with_byte l (upward_from low) ++ range_before (l + 1) h (length low)) (with_byte h (up_to high)) (y ∷ bytes) in
    let inner = any_append (with_byte l (upward_from low)) (range_before (l + 1) h (length low)) (y ∷ bytes) in
    let as_low = fronted l (upward_from low) y bytes in
    let amid = between (l + 1) h (length low) y bytes in
    let as_high = fronted h (up_to high) y bytes in
    let from_low = no_less low bytes (256 * n + l) ls.1 in
    let to_high = no_more high bytes (256 * n + h) hs.1 in (
      λ w. ⊎_elim
          (λ v. ⊎_elim
          (λ one. let (head, rest) = as_low.0 one in let (long, bs, order) = from_low.0 rest in
          let top = less_after bytes high (256 * n + l) (256 * n + h) (omega arith) bs (omega arith) in
          (omega arith, (omega arith, bs), rw head order, rw head (omega arith)))
          (λ one. let (from, to, long, bs) = amid.0 one in
          let bottom = less_after low bytes (256 * n + l) (256 * n + y) (sym long) ls.1 (omega arith) in
          let top = less_after bytes high (256 * n + y) (256 * n + h) (omega arith) bs (omega arith) in
          (omega arith, (omega arith, bs), omega arith, omega arith)) (inner.0 v))
          (λ one. let (head, rest) = as_high.0 one in let (long, bs, order) = to_high.0 rest in
          let bottom = less_after low bytes (256 * n + l) (256 * n + h) (omega arith) ls.1 (omega arith) in
          (omega arith, (omega arith, bs), rw head (omega arith), rw head order)) (outer.0 w),
      λ (long, bs, a, b).
          let tail : length bytes ≡ length low = omega arith in
          let tail' : length bytes ≡ length high = omega arith in
          let byte : y < 256 = bs.0 in
          outer.1 (⊎_elim
          (λ head. inl (inner.1 (inl (as_low.1 (sym head, from_low.1 (tail, bs.1, rw (sym head) at a))))))
          (λ differ. ⊎_elim
          (λ above. ⊎_elim
          (λ top. inr (as_high.1 (top, to_high.1 (tail', bs.1, rw top at b))))
          (λ either. ⊎_elim
          (λ under. inl (inner.1 (inr (amid.1 (omega arith, under, tail, bs.1)))))
          (λ over. absurd (let turned = less_after high bytes (256 * n + h) (256 * n + y) (sym tail') hs.1 (omega arith) in omega arith)) either)
          (cases_order y h))
          (λ below. absurd (let turned = less_after bytes low (256 * n + y) (256 * n + l) tail bs.1 (omega arith) in omega arith)) differ)
          (cases_order l y)),
    )

pub ranges_match : (low high bytes : List ℕ) (n : ℕ) → length low ≡ length high → AreBytes low → AreBytes high → number_after n low ≤ number_after n high
    → MatchesAny (ranges low high) bytes ↔ Within n low high bytes
ranges_match [] [] [] n same ls hs ordered = (λ _. (refl, tt, omega arith, omega arith), λ _. inl refl)
ranges_match [] [] (y ∷ bytes) n same ls hs ordered = (
  λ w. ⊎_elim (λ e. absurd (omega (arith, ap length e))) (λ none. absurd none) w,
  λ (long, bs, a, b). absurd (omega arith),
)
ranges_match [] (h ∷ high) bytes n same ls hs ordered = absurd (omega arith)
ranges_match (l ∷ low) [] bytes n same ls hs ordered = absurd (omega arith)
ranges_match (l ∷ low) (h ∷ high) bytes n same ls hs ordered =
    ranges_where (l == h) l h low high bytes n (eqb-true l h) (eqb-false l h) (omega arith) ls hs ordered
    (λ ys m lower. ranges_match low high ys m (omega arith) ls.1 hs.1 lower)
