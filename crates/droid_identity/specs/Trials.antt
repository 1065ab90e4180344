-- The signatures of a format that were tried (this project's own).
use Rattle.std.specs.Prelude.{◌≡◌, ℕ, suc, List, [], ◌∷◌, Option, Some, None}
use Rattle.droid_pronom.specs.Registry.{Signed}
use Rattle.droid_pronom.specs.declared.rows.ByteSequence.{ByteSequence}
use Rattle.droid_identity.specs.declared.found_match.Match.{Match}
use Rattle.droid_identity.specs.declared.trials.Trial.{Trial}

-- The definitions below take the predicates N, which match of a byte sequence is reported, and H, which byte sequences
-- hit.

-- the byte sequence has this match, or does not hit
abbrev pub IsTried : (ByteSequence → Match → Type 0) → (ByteSequence → Type 0) → ByteSequence → Option Match → Type 0
IsTried N H sequence None = H sequence → ⊥
IsTried N H sequence (Some its) = N sequence its

-- each byte sequence in order
abbrev pub AreTried : (ByteSequence → Match → Type 0) → (ByteSequence → Type 0) → List ByteSequence
    → List (Option Match) → Type 0
AreTried N H [] [] = Unit {0}
AreTried N H [] (found ∷ more) = ⊥
AreTried N H (sequence ∷ sequences) [] = ⊥
AreTried N H (sequence ∷ sequences) (found ∷ more) = IsTried N H sequence found × AreTried N H sequences more

-- The trials of the signatures of the format at a place, in order, and no other. The first signature has the number k.
pub data Trials (N : ByteSequence → Match → Type 0) (H : ByteSequence → Type 0) (place : ℕ) : ℕ → List Signed
    → List Trial → Type 0 where
  end : {k : ℕ} → Trials N H place k [] []
  tried : {k : ℕ} {signature : Signed} {signatures : List Signed} {trial : Trial} {trials : List Trial}
      → signature.place ≡ place → trial.signature ≡ k → AreTried N H signature.sequences trial.matches.items
      → Trials N H place (suc k) signatures trials
      → Trials N H place k (signature ∷ signatures) (trial ∷ trials)
  passed : {k : ℕ} {signature : Signed} {signatures : List Signed} {trials : List Trial}
      → (signature.place ≡ place → ⊥) → Trials N H place (suc k) signatures trials
      → Trials N H place k (signature ∷ signatures) trials
