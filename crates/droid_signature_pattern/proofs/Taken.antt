-- What a byte sequence becomes, if it was read and written.
use Rattle.std.proofs.Common.{◌≡◌, ℕ, suc, Bool, true, false, List, [], ◌∷◌, inr, refl, sym, ap, ◌∙◌, subst, arith}
use Rattle.std.specs.Prelude.{◌&&◌}
use Rattle.std.specs.List.{Any, list_all}
use Rattle.std.proofs.lemmas.Bool.{false≢true}
use Rattle.droid_pattern.specs.Patterns.{Element}
use Rattle.droid_pronom.specs.declared.rows.Offsets.{Offsets}
use Rattle.droid_signature_file.specs.Records.{ByteSequenceRecord, SubSequenceRecord}
use Rattle.droid_signature_file.specs.declared.sequence.Reference.{Reference}
use Rattle.droid_signature_file.specs.declared.sequence.Reference.TheVariants.{Beginning, End, Other}
use Rattle.droid_pronom.specs.declared.rows.Anchor.{Anchor}
use Rattle.droid_signature_file.specs.Sequences.{ArePatternsOf, IsAnchorOf, StandFor, WholeMatches}
use Rattle.droid_signature_pattern.specs.Texts.{AreSmall, AreShort}
use Rattle.droid_signature_pattern.specs.Written.{written_all, written_each}
use Rattle.droid_signature_pattern.specs.declared.reason.Reason.TheVariants as reasons
use Rattle.droid_signature_pattern.specs.Choices.{AreReadAs, IsTaken}
use Rattle.droid_signature_pattern.specs.Ends.{ends_in_byte}
use Rattle.droid_signature_pattern.specs.Parts.{AreReadParts, IsReadPart, ReadPart, row_patterns}
use Rattle.droid_signature_pattern.specs.Reasons.{IsRead, IsReasonOfOne}
use Rattle.droid_signature_pattern.specs.declared.choices.Choices.{Choices}
use Rattle.droid_signature_pattern.proofs.PartSets.{alone_matches, row_matches}
use Rattle.droid_signature_pattern.proofs.ReadTexts.{read_as, row_can}

-- the patterns match what all subsequences do, by the reference
whole_matches : (reference : Reference) (anchor : Anchor) (part : SubSequenceRecord) (further : List SubSequenceRecord) (first : ReadPart) (rest : List ReadPart) → IsAnchorOf reference anchor → (reference ≡ End → further ≡ [])
    → IsReadPart part first → AreReadParts further rest → ArePatternsOf (WholeMatches reference part further) (row_patterns first rest)
whole_matches Beginning anchor part further first rest from alone is are = row_matches part further first rest is are
whole_matches End anchor part [] first [] from alone is are = alone_matches part first is
whole_matches End anchor part [] first (read ∷ more) from alone is are = absurd are
whole_matches End anchor part (another ∷ more) first rest from alone is are = let bad : another ∷ more ≡ [] = alone refl in absurd cc
whole_matches Other anchor part further first rest from alone is are = absurd from

pub stands : (sequence : ByteSequenceRecord) (offsets : Offsets) (first : ReadPart) (rest : List ReadPart) → IsRead sequence offsets first rest → StandFor sequence offsets (row_patterns first rest)
stands sequence offsets first rest is = record {
  part = is.part;
  further = is.further;
  parts = is.parts;
  anchor = is.anchor;
  from_min = is.are_read.from_min;
  to_max = is.are_read.to_max;
  matched = whole_matches sequence.reference offsets.anchor is.part is.further first rest is.anchor is.alone is.are_read.is_first is.are_read.are_rest;
}

pub is_taken : (sequence : ByteSequenceRecord) (taken : Choices) (first : ReadPart) (rest : List ReadPart) → IsRead sequence taken.offsets first rest → taken.texts ≡ written_each (row_patterns first rest)
    → AreSmall taken.texts → list_all ends_in_byte taken.texts ≡ true → IsTaken sequence taken
is_taken sequence taken first rest is written small ends =
    let Q : List (List ℕ) → Type 0 = λ texts. AreReadAs texts (row_patterns first rest) in
    let S : List (List ℕ) → Type 0 = λ texts. AreShort texts in
    record {
      first = first;
      rest = rest;
      is_read = is;
      texts = written;
      small = small;
      stand = stands sequence taken.offsets first rest is;
      ends = ends;
      read = subst Q (sym written) (read_as (row_patterns first rest) (row_can is.part is.further first rest is.are_read.is_first is.are_read.are_rest) (subst S written small.short) (ap (list_all ends_in_byte) (sym written) ∙ ends));
    }

-- a text that is empty or ends in a gap
gap_at : (patterns : List (List Element)) → list_all ends_in_byte (written_each patterns) ≡ false → Any (λ es. ends_in_byte (written_all es) ≡ false) patterns
gap_at [] e = absurd (false≢true (sym e))
gap_at (es ∷ patterns) e = go (ends_in_byte (written_all es)) refl e (λ later. gap_at patterns later)
  where
    go : (t : Bool) → ends_in_byte (written_all es) ≡ t → (t && list_all ends_in_byte (written_each patterns)) ≡ false → (list_all ends_in_byte (written_each patterns) ≡ false → Any (λ fs. ends_in_byte (written_all fs) ≡ false) patterns)
        → Any (λ fs. ends_in_byte (written_all fs) ≡ false) (es ∷ patterns)
    go false here both later = (0, es, omega arith, refl, here)
    go true here both later = let (k, fs, below, is, holds) = later both in (suc k, fs, omega arith, is, holds)

pub is_left_out : (sequence : ByteSequenceRecord) (offsets : Offsets) (first : ReadPart) (rest : List ReadPart) → IsRead sequence offsets first rest → (texts : List (List ℕ)) → texts ≡ written_each (row_patterns first rest)
    → list_all ends_in_byte texts ≡ false → IsReasonOfOne reasons.GapAtEnd sequence
is_left_out sequence offsets first rest is texts written ends =
    inr (offsets, first, rest, is, inr (refl, gap_at (row_patterns first rest) (ap (list_all ends_in_byte) (sym written) ∙ ends)))
