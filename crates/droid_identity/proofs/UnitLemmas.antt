-- One unit more, a unit that may not come next, and the end.
use Rattle.std.proofs.Common.{◌≡◌, ℕ, ◌-◌, ◌<◌, ◌≤◌, Bool, true, false, not, ◌&&◌, ◌||◌, ◌==◌, List, [], ◌∷◌, length, take, drop, get_or, None, refl, ap, sym, arith}
use Rattle.std.proofs.lemmas.List.{take_all}
use Rattle.droid_identity.specs.TextKinds.{is_high, is_units, mark, may_follow, order_of, unit}
use Rattle.droid_identity.specs.declared.units.Order.{Order}

pub two_and_rest : (xs : List ℕ) → 2 ≤ length xs → xs ≡ get_or xs 0 0 ∷ get_or xs 1 0 ∷ take (length xs - 2) (drop 2 xs)
two_and_rest [] long = absurd (omega (arith, long))
two_and_rest (x ∷ []) long = absurd (omega (arith, long))
two_and_rest (x ∷ y ∷ more) long = ap (λ (l : List ℕ). x ∷ y ∷ l) (sym (take_all (length (x ∷ y ∷ more) - 2) more (omega arith)))

module _ (order : Order) (cut after whole : Bool) (left more : List ℕ) (a b : ℕ) (front : left ≡ a ∷ b ∷ more) (inv : whole ≡ is_units order cut after left) where
  here : whole ≡ (may_follow after (unit order a b) && is_units order cut (is_high (unit order a b)) more)
  here = rw front at inv

  pub unit_more : may_follow after (unit order a b) ≡ true → whole ≡ is_units order cut (is_high (unit order a b)) more
  unit_more may = rw may at here

  pub unit_bad : may_follow after (unit order a b) ≡ false → whole ≡ false
  unit_bad may = rw may at here

pub unit_end : (order : Order) (cut after whole empty : Bool) (left : List ℕ) → length left ≤ 1 → whole ≡ is_units order cut after left → empty ≡ (length left == 0)
    → (empty && (not after || cut)) ≡ whole
unit_end order cut after whole empty [] few inv e = rw (e, inv) refl
unit_end order cut after whole empty (x ∷ []) few inv e = rw (e, inv) refl
unit_end order cut after whole empty (x ∷ y ∷ more) few inv e = absurd (omega (arith, few))

-- ---- the mark

pub order_some : (bytes : List ℕ) → 1 < length bytes → mark (get_or bytes 0 0) (get_or bytes 1 0) ≡ order_of bytes
order_some [] h = absurd (omega (arith, h))
order_some (x ∷ []) h = absurd (omega (arith, h))
order_some (x ∷ y ∷ more) h = refl

pub order_none : (bytes : List ℕ) → length bytes ≤ 1 → None ≡ order_of bytes
order_none [] h = refl
order_none (x ∷ []) h = refl
order_none (x ∷ y ∷ more) h = absurd (omega (arith, h))
