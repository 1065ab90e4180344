-- Bytes in front are kept.
use Rattle.std.proofs.Common.{◌≡◌, ◌∙◌, ◌≤◌, ℕ, List, ◌++◌, length, take, refl, sym, ap, arith, subst}
use Rattle.std.proofs.lemmas.List.{take_all, take_at, take-append-le, take-take, length-take}
use Rattle.droid_fixity.specs.Writing.{KeepsFront}

pub front_same : (bytes : List ℕ) → KeepsFront bytes bytes
front_same bytes = take_all (length bytes) bytes (omega arith)

pub front_append : (front bytes : List ℕ) → KeepsFront front (front ++ bytes)
front_append front bytes = take_at front bytes (length front) refl

-- a front is no longer than what it is the front of
front_fits : (front bytes : List ℕ) → KeepsFront front bytes → length front ≤ length bytes
front_fits front bytes kept =
    let same = sym (length-take (length front) bytes) ∙ ap length kept in
    omega (arith, same)

pub front_through : (front middle bytes : List ℕ) → KeepsFront front middle → KeepsFront middle bytes → KeepsFront front bytes
front_through front middle bytes one two =
    sym (take-take (length front) (length middle) bytes (front_fits front middle one)) ∙ (ap (take (length front)) two ∙ one)
