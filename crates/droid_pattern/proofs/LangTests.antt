-- The test of a pattern decides its language.
use Rattle.std.proofs.Common.{◌≡◌, ◌≢◌, ℕ, suc, ◌<◌, ◌≤◌, Bool, not, ◌&&◌, ◌==◌, List, [], ◌∷◌, length, take, drop, refl, sym, ap, ◌∙◌, arith, take_at, drop_at, length-append}
use Rattle.std.specs.Prelude.{Decides, nat_le, bytes_eq, Contains}
use Rattle.std.specs.List.{list_any}
use Rattle.std.proofs.lemmas.Bool.{leb-true, le-leb}
use Rattle.std.proofs.lemmas.Bool.Decides.{Decides-and, Decides-not, Decides-like, Decides-eqb, Decides-by_or, Decides-below_or}
use Rattle.std.proofs.lemmas.List.{take-append-drop}
use Rattle.std.proofs.lemmas.List.Elements.{Decides-contains}
use Rattle.std.proofs.lemmas.Slice.Eq.{bytes_eq-Decides}
use Rattle.droid_pattern.specs.Patterns.{Element, Byte, AnyByte, Gap, OpenGap, Range, Except, Choice, Matches, Lang}
use Rattle.droid_pattern.specs.LangTest.{some_below, one_byte, matches, in_lang}

pub decides_le : (a b : ℕ) → Decides (nat_le a b) (a ≤ b)
decides_le a b = (leb-true a b, le-leb a b)

-- some number below n passes
pub decides_some : (test : ℕ → Bool) (P : ℕ → Type 0) → ((k : ℕ) → Decides (test k) (P k)) → (n : ℕ) → Decides (some_below test n) ((k : ℕ) × (k < n) × P k)
decides_some test P each = Decides-below_or test P (some_below test) each refl (λ n. refl)

decides_one : (test : ℕ → Bool) (P : ℕ → Type 0) → ((x : ℕ) → Decides (test x) (P x)) → (bytes : List ℕ) → Decides (one_byte test bytes) ((x : ℕ) × (bytes ≡ x ∷ []) × P x)
decides_one test P each [] = (λ t. cc, λ h. let e = h.1 in cc)
decides_one test P each (x ∷ []) = (λ t. (x, refl, (each x).0 t), λ h. let e : h.0 ≡ x = let whole = h.1 in cc in (each x).1 (rw e at h.2))
decides_one test P each (x ∷ y ∷ more) = (λ t. cc, λ h. let e = h.1 in cc)

decides_choice : (bytes : List ℕ) (alternatives : List (List ℕ)) → Decides (list_any (bytes_eq bytes) alternatives) (Contains alternatives bytes)
decides_choice bytes alternatives =
    Decides-contains alternatives bytes (list_any (bytes_eq bytes) alternatives)
    (Decides-by_or (bytes_eq bytes) (λ y. y ≡ bytes) (list_any (bytes_eq bytes)) (λ y. Decides-like (bytes_eq bytes y) sym sym (bytes_eq-Decides bytes y)) refl (λ x xs. refl) alternatives)

pub decides_element : (e : Element) (bytes : List ℕ) → Decides (matches e bytes) (Matches e bytes)
decides_element (Byte b) bytes = bytes_eq-Decides bytes (b ∷ [])
decides_element AnyByte bytes = Decides-eqb (length bytes) 1
decides_element (Gap least most) bytes = Decides-and (nat_le least (length bytes)) (nat_le (length bytes) most) (decides_le least (length bytes)) (decides_le (length bytes) most)
decides_element (OpenGap least) bytes = decides_le least (length bytes)
decides_element (Range low high) bytes =
    Decides-like (matches (Range low high) bytes) (λ h. (h.0, h.1, h.2.0, h.2.1)) (λ h. (h.0, h.1, (h.2, h.3)))
    (decides_one (λ x. nat_le low x && nat_le x high) (λ x. (low ≤ x) × (x ≤ high)) (λ x. Decides-and (nat_le low x) (nat_le x high) (decides_le low x) (decides_le x high)) bytes)
decides_element (Except b) bytes = decides_one (λ x. not (x == b)) (λ x. x ≢ b) (λ x. Decides-not (x == b) (Decides-eqb x b)) bytes
decides_element (Choice alternatives) bytes = decides_choice bytes alternatives

-- some cut of the bytes
pub decides_lang : (es : List Element) (bytes : List ℕ) → Decides (in_lang es bytes) (Lang es bytes)
decides_lang [] bytes = bytes_eq-Decides bytes []
decides_lang (e ∷ es) bytes =
    Decides-like (in_lang (e ∷ es) bytes)
    (λ h. (take h.0 bytes, drop h.0 bytes, sym (take-append-drop h.0 bytes), h.2.0, h.2.1))
    (λ (front, back, both, matched, rest). (
      length front,
      omega (arith, ap length both, length-append front back),
      (
        rw (ap (take (length front)) both ∙ take_at front back (length front) refl) matched,
        rw (ap (drop (length front)) both ∙ drop_at front back (length front) refl) rest,
      ),
    ))
    (decides_some (λ k. matches e (take k bytes) && in_lang es (drop k bytes)) (λ k. Matches e (take k bytes) × Lang es (drop k bytes))
    (λ k. Decides-and (matches e (take k bytes)) (in_lang es (drop k bytes)) (decides_element e (take k bytes)) (decides_lang es (drop k bytes))) (suc (length bytes)))
