-- The ends of a file of which more bytes came.
use Rattle.std.proofs.Common.{◌≡◌, ℕ, ◌+◌, ◌-◌, ◌<◌, ◌≤◌, List, [], ◌++◌, length, take, drop, min, inl, inr, refl, sym, ap, ◌∙◌, arith, length-append}
use Rattle.std.proofs.Math.Seq.{take-append-add, drop-append-add}
use Rattle.std.proofs.lemmas.Bool.{cases_lt}
use Rattle.std.proofs.lemmas.List.{append-nil, drop-append-le, drop_all, drop_min, length-take, take-append-le, take_all, take_min}
use Rattle.droid_hash.specs.Ends.{AreEnds}

-- the first bytes of two lists joined
pub take_joined : (n : ℕ) (xs ys : List ℕ) → take n (xs ++ ys) ≡ take n xs ++ take (n - length xs) ys
take_joined n xs ys = elim (cases_lt (length xs) n) [
  | inl beyond ↦
      let all : length xs + (n - length xs) ≡ n = omega arith in
      ap (λ k. take k (xs ++ ys)) (sym all) ∙ take-append-add xs ys (n - length xs)
      ∙ ap (λ (zs : List ℕ). zs ++ take (n - length xs) ys) (sym (take_all n xs (omega arith)))
  | inr inside ↦
      let none : n - length xs ≡ 0 = omega arith in
      take-append-le n xs ys inside ∙ sym (append-nil (take n xs)) ∙ ap (λ k. take n xs ++ take k ys) (sym none)
]

-- what is left of two lists joined
pub drop_joined : (n : ℕ) (xs ys : List ℕ) → drop n (xs ++ ys) ≡ drop n xs ++ drop (n - length xs) ys
drop_joined n xs ys = elim (cases_lt (length xs) n) [
  | inl beyond ↦
      let all : length xs + (n - length xs) ≡ n = omega arith in
      ap (λ k. drop k (xs ++ ys)) (sym all) ∙ drop-append-add xs ys (n - length xs)
      ∙ ap (λ (zs : List ℕ). zs ++ drop (n - length xs) ys) (sym (drop_all n xs (omega arith)))
  | inr inside ↦
      let none : n - length xs ≡ 0 = omega arith in
      drop-append-le n xs ys inside ∙ ap (λ k. drop n xs ++ drop k ys) (sym none)
]

-- no byte came
pub none_came : (limit size : ℕ) → AreEnds limit size 0 [] [] []
none_came limit size = record {
  counted = ap length (sym (take_all size [] (omega arith)));
  begun = sym (ap (take (min limit size)) (take_all size [] (omega arith)) ∙ take_all (min limit size) [] (omega arith));
  ended = sym (ap (drop (size - min limit size)) (take_all size [] (omega arith)) ∙ drop_all (size - min limit size) [] (omega arith));
}

-- more bytes came: those within the size, each end's at that end
pub more_came : (limit size count : ℕ) (first last bytes piece : List ℕ) (taken early middle count' : ℕ) (first' last' : List ℕ)
    → AreEnds limit size count first last bytes
    → taken ≡ min (size - count) (length piece)
    → early ≡ min (min limit size - count) taken → middle ≡ min (size - min limit size - count) taken
    → count' ≡ count + taken → first' ≡ first ++ take early (take taken piece) → last' ≡ last ++ drop middle (take taken piece)
    → AreEnds limit size count' first' last' (bytes ++ piece)
more_came limit size count first last bytes piece taken early middle count' first' last' ends et ee em ec ef el =
    let w : ℕ = min limit size in
    let d : ℕ = size - w in
    let t : List ℕ = take size bytes in
    let q : List ℕ = take taken piece in
    let lt : length t ≡ min size (length bytes) = length-take size bytes in
    let lq : length q ≡ taken = omega (arith, length-take taken piece) in
    let left : taken ≡ min (size - length bytes) (length piece) = omega (arith, ends.counted) in
    let rest : take (size - length bytes) piece ≡ q = sym (take_min (size - length bytes) piece) ∙ ap (λ k. take k piece) (sym left) in
    let whole : take size (bytes ++ piece) ≡ t ++ q = take_joined size bytes piece ∙ ap (λ (x : List ℕ). t ++ x) rest in
    let early_is : early ≡ min (w - length t) (length q) = omega (arith, ends.counted) in
    let middle_is : middle ≡ min (d - length t) (length q) = omega (arith, ends.counted) in
    let at_first : take early q ≡ take (w - length t) q = ap (λ k. take k q) early_is ∙ take_min (w - length t) q in
    let at_last : drop middle q ≡ drop (d - length t) q = ap (λ k. drop k q) middle_is ∙ drop_min (d - length t) q in
    record {
      counted = omega (arith, ends.counted, ap length whole, length-append t q);
      begun = ef ∙ ap (λ (x : List ℕ). x ++ take early q) ends.begun ∙ ap (λ (x : List ℕ). take w t ++ x) at_first
          ∙ sym (ap (take w) whole ∙ take_joined w t q);
      ended = el ∙ ap (λ (x : List ℕ). x ++ drop middle q) ends.ended ∙ ap (λ (x : List ℕ). drop d t ++ x) at_last
          ∙ sym (ap (drop d) whole ∙ drop_joined d t q);
    }

-- all bytes came
pub all_first : (limit size count : ℕ) (first last bytes : List ℕ) → AreEnds limit size count first last bytes → length bytes ≡ size → first ≡ take (min limit size) bytes
all_first limit size count first last bytes ends all = ends.begun ∙ ap (take (min limit size)) (take_all size bytes (omega arith))

pub all_last : (limit size count : ℕ) (first last bytes : List ℕ) → AreEnds limit size count first last bytes → length bytes ≡ size → last ≡ drop (size - min limit size) bytes
all_last limit size count first last bytes ends all = ends.ended ∙ ap (drop (size - min limit size)) (take_all size bytes (omega arith))
