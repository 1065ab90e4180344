-- What a byte sequence of a signature file becomes: offsets and patterns of a registry, one of which has to hit.
use Rattle.std.specs.Prelude.{◌≡◌, ◌↔◌, ℕ, ◌+◌, List, [], ◌∷◌, ◌++◌, map, Option, Some, ⊤}
use Rattle.std.specs.List.{AllByRecursion}
use Rattle.droid_pattern.specs.Patterns.{Element}
use Rattle.droid_pronom.specs.Registry.{AnyOf}
use Rattle.droid_pronom.specs.declared.rows.Anchor.{Anchor}
use Rattle.droid_pronom.specs.declared.rows.Anchor.TheVariants.{Bof, Eof}
use Rattle.droid_pronom.specs.declared.rows.ByteSequence.{ByteSequence}
use Rattle.droid_pronom.specs.declared.rows.Offsets.{Offsets}
use Rattle.droid_signature_file.specs.Records.{SubSequenceRecord, ByteSequenceRecord}
use Rattle.droid_signature_file.specs.declared.sequence.Reference.{Reference}
use Rattle.droid_signature_file.specs.declared.sequence.Reference.TheVariants.{Beginning, End, Other}
use Rattle.droid_signature_file.specs.Expansions.{MatchesAny}
use Rattle.droid_signature_file.specs.Meaning.{PartMatches, RowMatches, lowest}

-- the patterns match exactly the bytes that satisfy P
abbrev pub ArePatternsOf : (List ℕ → Type 0) → List (List Element) → Type 0
ArePatternsOf P patterns = (bytes : List ℕ) → MatchesAny patterns bytes ↔ P bytes

-- the end of a file from which a registry counts
abbrev pub IsAnchorOf : Reference → Anchor → Type 0
IsAnchorOf Beginning anchor = anchor ≡ Bof
IsAnchorOf End anchor = anchor ≡ Eof
IsAnchorOf Other anchor = ⊥

-- the bytes of all subsequences, by the reference
abbrev pub WholeMatches : Reference → SubSequenceRecord → List SubSequenceRecord → List ℕ → Type 0
WholeMatches Beginning part further bytes = RowMatches part further bytes
WholeMatches End part [] bytes = PartMatches part bytes
WholeMatches End part (another ∷ more) bytes = ⊥
WholeMatches Other part further bytes = ⊥

-- Offsets and patterns stand for a byte sequence: the offsets are those of its first subsequence, and the patterns
-- match what all its subsequences match.
pub record StandFor (sequence : ByteSequenceRecord) (offsets : Offsets) (patterns : List (List Element)) : Type 0 where
  pub part : SubSequenceRecord
  pub further : List SubSequenceRecord
  pub parts : sequence.parts ≡ part ∷ further
  pub anchor : IsAnchorOf sequence.reference offsets.anchor
  pub from_min : offsets.min ≡ lowest part.offsets
  pub to_max : part.offsets.max ≡ Some offsets.max
  pub matched : ArePatternsOf (WholeMatches sequence.reference part further) patterns

-- a byte sequence of a registry for each pattern
abbrev pub choices : Offsets → List (List Element) → List ByteSequence
choices offsets [] = []
choices offsets (elements ∷ more) = record { offsets = offsets; pattern = elements } ∷ choices offsets more

-- each choice in front of each list
abbrev pub each_before : List ByteSequence → List (List ByteSequence) → List (List ByteSequence)
each_before [] lists = []
each_before (choice ∷ more) lists = map (λ list. choice ∷ list) lists ++ each_before more lists

-- a signature of a registry for each way to choose one of each
abbrev pub combinations : List (List ByteSequence) → List (List ByteSequence)
combinations [] = [] ∷ []
combinations (first ∷ more) = each_before first (combinations more)

-- for each byte sequence of a signature the registry's that stand for it
abbrev pub AreChoicesOf : List ByteSequenceRecord → List (List ByteSequence) → Type 0
AreChoicesOf [] [] = ⊤
AreChoicesOf [] (first ∷ more) = ⊥
AreChoicesOf (sequence ∷ sequences) [] = ⊥
AreChoicesOf (sequence ∷ sequences) (first ∷ more) =
    ((offsets : Offsets) × (patterns : List (List Element)) × StandFor sequence offsets patterns
    × (first ≡ choices offsets patterns))
    × AreChoicesOf sequences more
