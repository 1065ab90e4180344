-- Text that is not ASCII, and text that is.
use Rattle.std.proofs.Common.{sym}
use Rattle.droid_pattern.proofs.TextLemmas.{is_some_list}
use Rattle.droid_signature_pattern.proofs.BoundLemmas.{not_quoted, quotable, some_length}
use Rattle.droid_signature_pattern.proofs.item_parser.quoted_of.Goals as goal

pub returns-then-not-is_ascii-clause-bad : goal.returns-then-not-is_ascii-clause-bad
returns-then-not-is_ascii-clause-bad c = λ _ a h. not_quoted c.args.body.now c.if-not-is_ascii.ensures a h

pub returns-clause-spelled : goal.returns-clause-spelled
returns-clause-spelled c =
    let e = c.in_ok-bytes.ensures.items in
    (sym e, rw e (some_length c.args.body.now (is_some_list c.args.body.now c.if-is_empty.ensures)), rw e (quotable c.args.body.now c.if-not-is_ascii.ensures c.requires))
