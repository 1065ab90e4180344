use Rattle.std.proofs.Common.{◌≡◌, ℕ, ◌<◌, Some}
use Rattle.std.specs.List.{slice_get, AllByRecursion}
use Rattle.droid_pronom.specs.Registry.{Signed}
use Rattle.droid_identity.specs.Matches.{HitsEnds}
use Rattle.droid_identity.proofs.hit_signature.signature_basis.Given as goal

-- no signature of the format hits so far
abbrev pub invariant-loop-number : goal.invariant-loop-number
invariant-loop-number l =
    (before : ℕ) (other : Signed) → before < l.number → slice_get l.signatures before ≡ Some other → other.place ≡ l.place
    → AllByRecursion (HitsEnds l.first l.last) other.sequences → ⊥
