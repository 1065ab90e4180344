-- Why a registry cannot hold a byte sequence: what each reason says of it.
use Rattle.std.specs.Prelude.{◌≡◌, ◌⊎◌, ℕ, suc, ◌<◌, ◌≤◌, ◌==◌, ◌&&◌, Bool, true, false, List, [], ◌∷◌, length, map}
use Rattle.std.specs.Prelude.{take, unwrap_or, Option, Some, None}
use Rattle.std.specs.List.{AllByRecursion, Any, list_any}
use Rattle.droid_pattern.specs.Patterns.{Element}
use Rattle.droid_pronom.specs.declared.rows.Anchor.{Anchor}
use Rattle.droid_pronom.specs.declared.rows.Offsets.{Offsets}
use Rattle.droid_signature_file.specs.Records.{ByteSequenceRecord, SubSequenceRecord}
use Rattle.droid_signature_file.specs.declared.subsequence.Fragment.{Fragment}
use Rattle.droid_signature_file.specs.declared.subsequence.OffsetRange.{OffsetRange}
use Rattle.droid_signature_file.specs.declared.sequence.Reference.TheVariants.{End, Other}
use Rattle.droid_signature_file.specs.Terms.{Term}
use Rattle.droid_signature_file.specs.TermText.{SpellsTerms}
use Rattle.droid_signature_file.specs.Meaning.{lowest, outermost}
use Rattle.droid_signature_file.specs.Sequences.{IsAnchorOf}
use Rattle.droid_signature_pattern.specs.Outcomes.{AreTooMuch, IsReasonOfTerms, IsTooMuch}
use Rattle.droid_signature_pattern.specs.Written.{written_all, written_each}
use Rattle.droid_signature_pattern.specs.declared.reason.Reason.{Reason}
use Rattle.droid_signature_pattern.specs.declared.reason.Reason.TheVariants as reasons
use Rattle.droid_signature_pattern.specs.Parts.{AreReadParts, IsReadPart, ReadFragment, ReadPart, level, next_levels}
use Rattle.droid_signature_pattern.specs.Parts.{part_levels, row_levels, row_patterns, side_levels}
use Rattle.droid_signature_pattern.specs.Positions.{are_numbered, has_position}
use Rattle.droid_signature_pattern.specs.Ends.{ends_in_byte}
use Rattle.droid_signature_pattern.specs.declared.part_texts.Way.{Way}
use Rattle.droid_signature_pattern.specs.declared.part_texts.Way.TheVariants as way

-- the lower offset is too large
abbrev pub IsReasonOfLower : OffsetRange → Reason → Type 0
IsReasonOfLower offsets reason = (reason ≡ reasons.LargeOffset) × (65535 < lowest offsets)

-- the upper offset is missing, too large, or less than the lower one
abbrev pub IsReasonOfUpper : OffsetRange → Option ℕ → Reason → Type 0
IsReasonOfUpper offsets None reason = reason ≡ reasons.NoUpperOffset
IsReasonOfUpper offsets (Some most) reason =
    ((reason ≡ reasons.LargeOffset) × (65535 < most)) ⊎ ((reason ≡ reasons.OffsetOrder) × (most < lowest offsets))

-- one of the two offsets is wrong
abbrev pub IsReasonOfBounds : OffsetRange → Reason → Type 0
IsReasonOfBounds offsets reason = IsReasonOfLower offsets reason ⊎ IsReasonOfUpper offsets offsets.max reason

-- a fragment's position is 0 or over 64
abbrev pub IsReasonOfPosition : Reason → Fragment → Type 0
IsReasonOfPosition reason fragment =
    ((reason ≡ reasons.FragmentPositions) × (fragment.position ≡ 0))
    ⊎ ((reason ≡ reasons.LargePosition) × (64 < fragment.position))

-- that, or no fragment has a position below the outermost
abbrev pub IsReasonOfPositions : List Fragment → Reason → Type 0
IsReasonOfPositions fragments reason =
    Any (IsReasonOfPosition reason) fragments
    ⊎ ((position : ℕ) × (reason ≡ reasons.FragmentPositions) × (0 < position) × (position ≤ outermost fragments)
    × (has_position position fragments ≡ false))

-- the text is too long, or outside the grammar
abbrev pub IsReasonOfText : List ℕ → Reason → Type 0
IsReasonOfText text reason =
    ((reason ≡ reasons.LongText) × (65536 < length text))
    ⊎ ((reason ≡ reasons.Text) × ((terms : List Term) → SpellsTerms text terms → ⊥))

-- why a fragment is not read
abbrev pub IsReasonOfFragment : Reason → Fragment → Type 0
IsReasonOfFragment reason fragment = IsReasonOfBounds fragment.offsets reason ⊎ IsReasonOfText fragment.text reason

-- why the fragments on one side are not read
abbrev pub IsReasonOfSide : List Fragment → Reason → Type 0
IsReasonOfSide fragments reason = IsReasonOfPositions fragments reason ⊎ Any (IsReasonOfFragment reason) fragments

-- why a subsequence is not read
abbrev pub IsReasonOfPart : Reason → SubSequenceRecord → Type 0
IsReasonOfPart reason part =
    IsReasonOfLower part.offsets reason ⊎ IsReasonOfSide part.left reason ⊎ IsReasonOfText part.text reason
    ⊎ IsReasonOfSide part.right reason

-- the upper offset is other than 0
abbrev pub HasUpper : SubSequenceRecord → Type 0
HasUpper part = 0 < unwrap_or part.offsets.max 0

-- the upper offset is missing or 0
abbrev pub HasNoUpper : SubSequenceRecord → Type 0
HasNoUpper part = unwrap_or part.offsets.max 0 ≡ 0

-- why a subsequence behind the first is not read
abbrev pub IsReasonOfFurther : Reason → SubSequenceRecord → Type 0
IsReasonOfFurther reason part = ((reason ≡ reasons.FurtherUpperOffset) × HasUpper part) ⊎ IsReasonOfPart reason part

-- why the subsequences of a byte sequence are not read
abbrev pub IsReasonOfParts : Reason → List SubSequenceRecord → Type 0
IsReasonOfParts reason [] = reason ≡ reasons.NoSubsequence
IsReasonOfParts reason (part ∷ further) =
    IsReasonOfBounds part.offsets reason ⊎ IsReasonOfPart reason part ⊎ Any (IsReasonOfFurther reason) further

-- why a byte sequence is not read
abbrev pub IsReasonOfSequence : ByteSequenceRecord → Reason → Type 0
IsReasonOfSequence sequence reason =
    ((reason ≡ reasons.Reference) × (sequence.reference ≡ Other))
    ⊎ ((reason ≡ reasons.SeveralFromEnd) × (sequence.reference ≡ End) × (1 < length sequence.parts))
    ⊎ ((reason ≡ reasons.SubsequencePositions) × (are_numbered 1 sequence.parts ≡ false))
    ⊎ IsReasonOfParts reason sequence.parts

-- why a fragment that was read cannot be written with its gap
abbrev pub IsReasonOfReadFragment : Way → Reason → ReadFragment → Type 0
IsReasonOfReadFragment from reason it =
    IsReasonOfTerms it.terms reason ⊎ AreTooMuch (map written_each (side_levels from it)) reason

-- why the fragments of a position cannot be written
abbrev pub IsReasonOfLevel : Way → ℕ → List ReadFragment → Reason → Type 0
IsReasonOfLevel from position fragments reason =
    Any (IsReasonOfReadFragment from reason) fragments
    ⊎ ((count : ℕ) × IsTooMuch (written_each (level from position (take count fragments))) reason)

-- why a part of a subsequence cannot be written
abbrev pub IsReasonOfReadPart : Reason → ReadPart → Type 0
IsReasonOfReadPart reason part =
    ((position : ℕ) × IsReasonOfLevel way.Left position part.left reason) ⊎ IsReasonOfTerms part.terms reason
    ⊎ ((position : ℕ) × IsReasonOfLevel way.Right position part.right reason)

-- why the first subsequence cannot be written
abbrev pub IsReasonOfFirstPart : Reason → ReadPart → Type 0
IsReasonOfFirstPart reason part =
    IsReasonOfReadPart reason part ⊎ AreTooMuch (map written_each (part_levels part)) reason

-- why a subsequence behind others cannot be written
abbrev pub IsReasonOfNextPart : Reason → ReadPart → Type 0
IsReasonOfNextPart reason part =
    IsReasonOfReadPart reason part ⊎ AreTooMuch (map written_each (next_levels part)) reason

-- why the subsequences of a byte sequence cannot be written
abbrev pub IsReasonOfRow : ReadPart → List ReadPart → Reason → Type 0
IsReasonOfRow part further reason =
    IsReasonOfFirstPart reason part ⊎ Any (IsReasonOfNextPart reason) further
    ⊎ AreTooMuch (map written_each (row_levels part further)) reason

-- a pattern has no byte, or ends in a gap
abbrev pub HasGapAtEnd : List (List Element) → Reason → Type 0
HasGapAtEnd patterns reason = (reason ≡ reasons.GapAtEnd) × Any (λ es. ends_in_byte (written_all es) ≡ false) patterns

-- The subsequences of a byte sequence are read as these, with these offsets. None but the first has an upper one.
pub record AreRead (anchor : Anchor) (part : SubSequenceRecord) (further : List SubSequenceRecord) (offsets : Offsets)
    (first : ReadPart) (rest : List ReadPart) : Type 0 where
  pub same : offsets.anchor ≡ anchor
  pub from_min : offsets.min ≡ lowest part.offsets
  pub to_max : part.offsets.max ≡ Some offsets.max
  pub ordered : offsets.min ≤ offsets.max
  pub small : offsets.max ≤ 65535
  pub is_first : IsReadPart part first
  pub are_rest : AreReadParts further rest
  pub plain : AllByRecursion HasNoUpper further

-- A byte sequence is read as these subsequences, with these offsets. Their positions are 1, 2, 3 and so on.
pub record IsRead (sequence : ByteSequenceRecord) (offsets : Offsets) (first : ReadPart) (rest : List ReadPart)
    : Type 0 where
  pub part : SubSequenceRecord
  pub further : List SubSequenceRecord
  pub parts : sequence.parts ≡ part ∷ further
  pub anchor : IsAnchorOf sequence.reference offsets.anchor
  pub alone : sequence.reference ≡ End → further ≡ []
  pub numbered : are_numbered 1 sequence.parts ≡ true
  pub are_read : AreRead offsets.anchor part further offsets first rest

-- why a registry cannot hold a byte sequence: it is not read, or what was read is not written
abbrev pub IsReasonOfOne : Reason → ByteSequenceRecord → Type 0
IsReasonOfOne reason sequence =
    IsReasonOfSequence sequence reason
    ⊎ ((offsets : Offsets) × (first : ReadPart) × (rest : List ReadPart) × IsRead sequence offsets first rest
    × (IsReasonOfRow first rest reason ⊎ HasGapAtEnd (row_patterns first rest) reason))
