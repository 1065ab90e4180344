-- The basis of a format: the signature that hits, and its matches (this project's own).
use Rattle.std.specs.Prelude.{◌≡◌, ℕ, ◌<◌, List, [], ◌∷◌, Some, slice_get}
use Rattle.std.specs.List.{AllByRecursion}
use Rattle.droid_pronom.specs.Registry.{Signed}
use Rattle.droid_pronom.specs.declared.rows.ByteSequence.{ByteSequence}
use Rattle.droid_identity.specs.declared.found_match.Match.{Match}
use Rattle.droid_identity.specs.declared.hit_signature.SignatureBasis.{SignatureBasis}

-- The definitions below take the predicates N, which match of a byte sequence is reported, and H, which byte sequences
-- hit.

-- each byte sequence has its match, in order
abbrev pub AreMatches : (ByteSequence → Match → Type 0) → List ByteSequence → List Match → Type 0
AreMatches N [] [] = Unit {0}
AreMatches N [] (its ∷ more) = ⊥
AreMatches N (sequence ∷ sequences) [] = ⊥
AreMatches N (sequence ∷ sequences) (its ∷ more) = N sequence its × AreMatches N sequences more

-- The basis of the format at a place: the first of its signatures that hits, and the match of each of its byte
-- sequences.
pub record IsBasis (N : ByteSequence → Match → Type 0) (H : ByteSequence → Type 0) (signatures : List Signed)
    (place : ℕ) (basis : SignatureBasis) : Type 0 where
  pub signature : Signed
  pub there : slice_get signatures basis.signature ≡ Some signature
  pub its : signature.place ≡ place
  pub matches : AreMatches N signature.sequences basis.matches.items
  pub first : (before : ℕ) (other : Signed) → before < basis.signature → slice_get signatures before ≡ Some other
      → other.place ≡ place → AllByRecursion H other.sequences → ⊥
