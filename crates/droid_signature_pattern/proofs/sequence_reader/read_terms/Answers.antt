-- A text is read as its one list of terms, or spells none, or is too long.
use Rattle.std.specs.Prelude.{Err}
use Rattle.std.proofs.Common.{ap, map, inl, inr, refl}
use Rattle.droid_signature_pattern.specs.TermValues.{term_of}
use Rattle.droid_signature_file.proofs.PieceSets.{text_patterns}
use Rattle.droid_signature_pattern.proofs.sequence_reader.read_terms.Goals as goal

pub returns-then-text-gt-LONGEST_TEXT-clause-err : goal.returns-then-text-gt-LONGEST_TEXT-clause-err
returns-then-text-gt-LONGEST_TEXT-clause-err c = inl (refl, c.if-text-gt-LONGEST_TEXT.true)

pub returns-in-Ok-clause-ok : goal.returns-in-Ok-clause-ok
returns-in-Ok-clause-ok c = record {
  short = c.if-text-gt-LONGEST_TEXT.false;
  spelled = c.in-Ok.ensures.spelled;
  patterns = text_patterns c.args.text.now (map term_of c.in-Ok.terms.items) c.in-Ok.ensures.spelled c.in-Ok.ensures.only;
}

pub returns-in-Err-BadText-clause-err : goal.returns-in-Err-BadText-clause-err
returns-in-Err-BadText-clause-err c = inr (refl, c.in-Err-BadText.ensures.bad (ap Err c.in-Err-BadText.field-0-is))
