-- What a signature becomes.
use Rattle.std.specs.Prelude.{◌≡◌, ◌⊎◌, ℕ, ◌*◌, ◌<◌, ◌≤◌, true, List, [], ◌∷◌, length, take, ⊤}
use Rattle.std.specs.List.{Any, list_all}
use Rattle.droid_pattern.specs.Patterns.{Element}
use Rattle.droid_pattern.specs.PatternText.{Spells}
use Rattle.droid_signature_file.specs.Records.{ByteSequenceRecord}
use Rattle.droid_signature_file.specs.Sequences.{StandFor}
use Rattle.droid_signature_pattern.specs.declared.reason.Reason.{Reason}
use Rattle.droid_signature_pattern.specs.declared.reason.Reason.TheVariants as reasons
use Rattle.droid_signature_pattern.specs.Texts.{AreSmall}
use Rattle.droid_signature_pattern.specs.Written.{written_each}
use Rattle.droid_signature_pattern.specs.Ends.{ends_in_byte}
use Rattle.droid_signature_pattern.specs.Parts.{ReadPart, row_patterns}
use Rattle.droid_signature_pattern.specs.Reasons.{IsRead, IsReasonOfOne}
use Rattle.droid_signature_pattern.specs.declared.choices.Choices.{Choices}

-- each text is read as the pattern in its place
abbrev pub AreReadAs : List (List ℕ) → List (List Element) → Type 0
AreReadAs [] [] = ⊤
AreReadAs [] (es ∷ patterns) = ⊥
AreReadAs (text ∷ texts) [] = ⊥
AreReadAs (text ∷ texts) (es ∷ patterns) = Spells text es × AreReadAs texts patterns

-- A byte sequence becomes these choices: offsets, and texts that a registry reads as patterns that stand for it.
pub record IsTaken (sequence : ByteSequenceRecord) (taken : Choices) : Type 0 where
  pub first : ReadPart
  pub rest : List ReadPart
  pub is_read : IsRead sequence taken.offsets first rest
  pub texts : taken.texts ≡ written_each (row_patterns first rest)
  pub small : AreSmall taken.texts
  pub stand : StandFor sequence taken.offsets (row_patterns first rest)
  pub read : AreReadAs taken.texts (row_patterns first rest)
  -- none is empty or ends in a gap
  pub ends : list_all ends_in_byte taken.texts ≡ true

-- the byte sequences of a signature become these, one after the other
abbrev pub AreAllTaken : List ByteSequenceRecord → List Choices → Type 0
AreAllTaken [] [] = ⊤
AreAllTaken [] (taken ∷ more) = ⊥
AreAllTaken (sequence ∷ sequences) [] = ⊥
AreAllTaken (sequence ∷ sequences) (taken ∷ more) = IsTaken sequence taken × AreAllTaken sequences more

-- in how many ways one text of each can be chosen
abbrev pub ways : List Choices → ℕ
ways [] = 1
ways (taken ∷ more) = length taken.texts * ways more

-- byte sequences that all have to hit become these choices: at least one, and at most 64 ways to choose
pub record AreTaken (sequences : List ByteSequenceRecord) (all : List Choices) : Type 0 where
  pub some : 0 < length all
  pub each : AreAllTaken sequences all
  pub few : ways all ≤ 64

-- the first of the byte sequences become choices, of which there are more than 64 ways to choose
pub record HaveManyWays (sequences : List ByteSequenceRecord) : Type 0 where
  pub count : ℕ
  pub all : List Choices
  pub each : AreAllTaken (take count sequences) all
  pub many : 64 < ways all

-- why a registry cannot hold byte sequences that all have to hit: there are none, too many ways to choose, or one of
-- them
abbrev pub IsReasonOf : List ByteSequenceRecord → Reason → Type 0
IsReasonOf sequences reason =
    ((reason ≡ reasons.NoSequence) × (sequences ≡ []))
    ⊎ ((reason ≡ reasons.ManyAlternatives) × HaveManyWays sequences)
    ⊎ Any (IsReasonOfOne reason) sequences
