-- The positions that a registry's patterns can hold: of the subsequences of a byte sequence, and of the fragments on
-- one side.
use Rattle.std.specs.Prelude.{◌≡◌, ℕ, suc, ◌<◌, ◌≤◌, ◌==◌, ◌&&◌, Bool, true, List, [], ◌∷◌}
use Rattle.std.specs.List.{AllByRecursion, list_any}
use Rattle.droid_signature_file.specs.Records.{SubSequenceRecord}
use Rattle.droid_signature_file.specs.declared.subsequence.Fragment.{Fragment}
use Rattle.droid_signature_file.specs.Meaning.{outermost}

-- whether the positions are n, the number behind n, and so on
abbrev pub are_numbered : ℕ → List SubSequenceRecord → Bool
are_numbered n [] = true
are_numbered n (part ∷ parts) = (part.position == n) && are_numbered (suc n) parts

-- whether a fragment has this position
abbrev pub has_position : ℕ → List Fragment → Bool
has_position position fragments = list_any (λ it. it.position == position) fragments

-- a position of a fragment: that of position 1 lies beside the sequence
abbrev pub IsPosition : Fragment → Type 0
IsPosition fragment = (0 < fragment.position) × (fragment.position ≤ 64)

-- the positions below the outermost, and its own, have a fragment each
abbrev pub AreWhole : List Fragment → Type 0
AreWhole fragments =
    (position : ℕ) → 0 < position → position ≤ outermost fragments → has_position position fragments ≡ true

-- Fragments whose positions are 1 to the outermost, each at least once, and at most 64.
pub record ArePositions (fragments : List Fragment) : Type 0 where
  pub each : AllByRecursion IsPosition fragments
  pub whole : AreWhole fragments
