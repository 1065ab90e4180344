-- The ends of a stream while it is read.
use Rattle.std.proofs.Common.{◌≡◌, ℕ, ◌+◌, ◌-◌, ◌<◌, ◌≤◌, min, List, [], ◌++◌, length, take, drop, Option, Some, None, IfSome, refl, ap, sym, subst, ◌∙◌, inl, inr, arith, append-nil, append_assoc}
use Rattle.std.specs.Io.KnownBytes.{Consumes, IsAtEnd}
use Rattle.std.proofs.lemmas.Bool.{cases_lt}
use Rattle.std.proofs.Math.Seq.{take-append-add, take-length, take-nil}
use Rattle.std.proofs.lemmas.List.{drop-drop, drop-append-le, length-append, length-drop, length-take-le, take-append-le, take_all}
use Rattle.droid_identity.specs.Matches.{AreEnds}
use Rattle.droid_cmd_identify.specs.StreamEnds.{KeepsEnds}

cut : (n : ℕ) (bytes : List ℕ) → take (min n (length bytes)) bytes ≡ take n bytes
cut n bytes =
    elim (cases_lt (length bytes) n) [
      | inl over ↦
          let e : min n (length bytes) ≡ length bytes = omega (arith, over) in
          ap (λ (k : ℕ). take k bytes) e ∙ take-length bytes ∙ sym (take_all n bytes (omega (arith, over)))
      | inr under ↦ let e : min n (length bytes) ≡ n = omega (arith, under) in ap (λ (k : ℕ). take k bytes) e
    ]

module _ (limit : ℕ) where
  pub kept_none : KeepsEnds limit [] [] []
  kept_none = record { begins = sym (take-nil limit); before = 0; inside = omega arith; ends = refl; enough = inl refl }

  -- the first bytes of more bytes
  first_more : (seen bytes : List ℕ) → take limit seen ++ take (min (limit - length (take limit seen)) (length bytes)) bytes ≡ take limit (seen ++ bytes)
  first_more seen bytes =
      elim (cases_lt (length seen) limit) [
        | inl short ↦
            let all : take limit seen ≡ seen = take_all limit seen (omega (arith, short)) in
            let e : length seen + (limit - length seen) ≡ limit = omega (arith, short) in
            ap (λ (xs : List ℕ). xs ++ take (min (limit - length xs) (length bytes)) bytes) all
            ∙ (ap (λ (xs : List ℕ). seen ++ xs) (cut (limit - length seen) bytes)
            ∙ (sym (take-append-add seen bytes (limit - length seen)) ∙ ap (λ (k : ℕ). take k (seen ++ bytes)) e))
        | inr long ↦
            let full : length (take limit seen) ≡ limit = length-take-le limit seen long in
            let none : min (limit - length (take limit seen)) (length bytes) ≡ 0 = omega (arith, full) in
            ap (λ (k : ℕ). take limit seen ++ take k bytes) none ∙ (append-nil (take limit seen) ∙ sym (take-append-le limit seen bytes long))
      ]

  pub part_added : (seen first rest bytes : List ℕ) → KeepsEnds limit seen first rest
      → KeepsEnds limit (seen ++ bytes) (first ++ take (min (limit - length first) (length bytes)) bytes) (rest ++ bytes)
  part_added seen first rest bytes k = record {
    begins = ap (λ (xs : List ℕ). xs ++ take (min (limit - length xs) (length bytes)) bytes) k.begins ∙ first_more seen bytes;
    before = k.before;
    inside = omega (arith, k.inside, length-append seen bytes);
    ends = ap (λ (xs : List ℕ). xs ++ bytes) k.ends ∙ sym (drop-append-le k.before seen bytes k.inside);
    enough = elim k.enough [ inl z ↦ inl z | inr more ↦ inr (omega (arith, more, length-append rest bytes)) ];
  }

  module _ (seen first rest : List ℕ) (k : KeepsEnds limit seen first rest) where
    rest_length : length rest ≡ length seen - k.before
    rest_length = ap length k.ends ∙ length-drop k.before seen

    -- of the last bytes enough are kept
    pub trimmed : limit ≤ length rest → KeepsEnds limit seen first (drop (length rest - limit) rest)
    trimmed fits =
        let n : ℕ = length rest - limit in
        let e = length-drop n rest in
        record {
          begins = k.begins;
          before = k.before + n;
          inside = omega (arith, rest_length, k.inside, fits);
          ends = ap (λ (xs : List ℕ). drop n xs) k.ends ∙ drop-drop n k.before seen;
          enough = inr (omega (arith, e, fits));
        }

    -- the ends of a stream that is longer than the limit
    pub settled_long : limit < length seen → AreEnds seen limit first (drop (length rest - limit) rest)
    settled_long longer =
        let one : length first ≡ limit = ap length k.begins ∙ length-take-le limit seen (omega (arith, longer)) in
        let fits : limit ≤ length rest = elim k.enough [ inl z ↦ omega (arith, rest_length, z, longer) | inr more ↦ more ] in
        let n : ℕ = length rest - limit in
        let len = length-drop n rest in
        let e : k.before + n ≡ length seen - length first = omega (arith, rest_length, one, fits, k.inside) in
        record {
          same = omega (arith, one, len, fits);
          reached = omega (arith, one, longer);
          begins = ap (λ (m : ℕ). take m seen) one ∙ sym k.begins;
          ends = sym (ap (λ (xs : List ℕ). drop n xs) k.ends ∙ (drop-drop n k.before seen ∙ ap (λ (m : ℕ). drop m seen) e));
        }

    -- the ends of a stream that is not
    pub settled_short : length seen ≤ limit → AreEnds seen limit first first
    settled_short fits =
        let all : first ≡ seen = k.begins ∙ take_all limit seen fits in
        let len : length first ≡ length seen = ap length all in
        let z : length seen - length first ≡ 0 = omega (arith, len) in
        record {
          same = refl;
          reached = omega (arith, len, fits);
          begins = ap (λ (xs : List ℕ). take (length xs) seen) all ∙ (take-length seen ∙ sym all);
          ends = ap (λ (m : ℕ). drop m seen) z ∙ sym all;
        }

-- ---- all that remained

pub consumed_all : (old new : Option (List ℕ)) (seen : List ℕ) → Consumes old new seen → IsAtEnd new → IfSome old (λ bytes. bytes ≡ seen)
consumed_all None new seen c at = tt
consumed_all (Some bytes) None seen c at = absurd c
consumed_all (Some bytes) (Some left) seen c at = c ∙ (ap (λ (l : List ℕ). seen ++ l) at ∙ append-nil seen)

pub of_whole : (P : List ℕ → Type 0) (remaining : Option (List ℕ)) (seen : List ℕ) → IfSome remaining (λ bytes. bytes ≡ seen) → P seen → IfSome remaining P
of_whole P None seen whole p = tt
of_whole P (Some bytes) seen whole p = subst P (sym whole) p

-- one more read that gave bytes
pub came_more : (old middle new : Option (List ℕ)) (seen bytes : List ℕ) → Consumes old middle seen → Consumes middle new bytes → Consumes old new (seen ++ bytes)
came_more None middle new seen bytes a b = tt
came_more (Some xs) None new seen bytes a b = absurd a
came_more (Some xs) (Some ys) None seen bytes a b = absurd b
came_more (Some xs) (Some ys) (Some zs) seen bytes a b = a ∙ (ap (λ (l : List ℕ). seen ++ l) b ∙ sym (append_assoc seen bytes zs))

-- nothing was read
pub came_none : (old : Option (List ℕ)) → Consumes old old []
came_none None = tt
came_none (Some xs) = refl

-- no bytes came, and none are kept
pub kept_first : (limit : ℕ) (first rest : List ℕ) → first ≡ [] → rest ≡ [] → KeepsEnds limit [] first rest
kept_first limit first rest no_first no_rest = rw (no_first, no_rest) (kept_none limit)

-- the last bytes are moved to the front, and the others are dropped
pub last_kept : (n : ℕ) (bytes : List ℕ) → n ≤ length bytes → take (length bytes - n) (drop n bytes ++ take n bytes) ≡ drop n bytes
last_kept n bytes within =
    let all = length-drop n bytes in
    take-append-le (length bytes - n) (drop n bytes) (take n bytes) (omega (arith, all)) ∙ take_all (length bytes - n) (drop n bytes) (omega (arith, all))
