-- A byte sequence whose subsequences are read.
use Rattle.std.proofs.Common.{◌≡◌, ◌↔◌, ℕ, suc, ◌<◌, Bool, true, false, List, [], ◌∷◌, length, refl, sym, ap, ◌∙◌, subst, arith}
use Rattle.std.specs.Bool.{IsTrue}
use Rattle.std.proofs.lemmas.Bool.{false≢true}
use Rattle.droid_pronom.specs.declared.rows.Anchor.{Anchor}
use Rattle.droid_pronom.specs.declared.rows.Offsets.{Offsets}
use Rattle.droid_signature_file.specs.Records.{ByteSequenceRecord, SubSequenceRecord}
use Rattle.droid_signature_file.specs.declared.sequence.Reference.{Reference}
use Rattle.droid_signature_file.specs.declared.sequence.Reference.TheVariants.{End}
use Rattle.droid_signature_file.specs.Sequences.{IsAnchorOf}
use Rattle.droid_signature_pattern.specs.declared.reason.Reason.{Reason}
use Rattle.droid_signature_pattern.specs.Parts.{ReadPart}
use Rattle.droid_signature_pattern.specs.Positions.{are_numbered}
use Rattle.droid_signature_pattern.specs.Reasons.{AreRead, IsRead, IsReasonOfParts}

-- one subsequence alone, from the end
alone : (further : List SubSequenceRecord) (t : Bool) (reference : Reference) (n : ℕ) → IsTrue t ↔ ((reference ≡ End) × (1 < n)) → t ≡ false → n ≡ suc (length further) → reference ≡ End → further ≡ []
alone [] t reference n says is long end = refl
alone (x ∷ further) t reference n says is long end = absurd (false≢true (sym is ∙ says.1 (end, omega arith)))

pub is_read : (sequence : ByteSequenceRecord) (reference : Reference) (anchor : Anchor) (parts : List SubSequenceRecord) (part : SubSequenceRecord) (further : List SubSequenceRecord) (offsets : Offsets) (first : ReadPart) (rest : List ReadPart)
    (t : Bool) (n : ℕ) → reference ≡ sequence.reference → parts ≡ sequence.parts → parts ≡ part ∷ further → IsAnchorOf reference anchor → IsTrue t ↔ ((reference ≡ End) × (1 < n)) → t ≡ false → n ≡ length parts → are_numbered 1 parts ≡ true
    → AreRead anchor part further offsets first rest → IsRead sequence offsets first rest
is_read sequence reference anchor parts part further offsets first rest t n same listed split from says is long numbered read =
    let A : Anchor → Type 0 = λ a. IsAnchorOf sequence.reference a in
    let R : Reference → Type 0 = λ r. IsAnchorOf r anchor in
    let Q : Anchor → Type 0 = λ a. AreRead a part further offsets first rest in
    record {
      part = part;
      further = further;
      parts = sym listed ∙ split;
      anchor = subst A (sym read.same) (subst R same from);
      alone = λ end. alone further t reference n says is (long ∙ ap length split) (same ∙ end);
      numbered = ap (are_numbered 1) (sym listed) ∙ numbered;
      are_read = subst Q (sym read.same) read;
    }

-- a reason of the subsequences
pub of_parts : (sequence : ByteSequenceRecord) (parts : List SubSequenceRecord) (part : SubSequenceRecord) (further : List SubSequenceRecord) (reason : Reason) → parts ≡ sequence.parts → parts ≡ part ∷ further
    → IsReasonOfParts reason (part ∷ further) → IsReasonOfParts reason sequence.parts
of_parts sequence parts part further reason listed split h = let P : List SubSequenceRecord → Type 0 = λ l. IsReasonOfParts reason l in subst P (sym split ∙ listed) h

pub no_parts : (sequence : ByteSequenceRecord) (parts : List SubSequenceRecord) (reason : Reason) → parts ≡ sequence.parts → length parts ≡ 0 → IsReasonOfParts reason [] → IsReasonOfParts reason sequence.parts
no_parts sequence [] reason listed none h = let P : List SubSequenceRecord → Type 0 = λ l. IsReasonOfParts reason l in subst P listed h
no_parts sequence (x ∷ parts) reason listed none h = absurd (omega arith)
