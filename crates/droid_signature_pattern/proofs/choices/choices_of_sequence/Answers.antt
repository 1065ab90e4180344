-- What a byte sequence becomes is read as the patterns that stand for it.
use Rattle.std.proofs.Common.{inl, inr, sym, ap, ◌∙◌}
use Rattle.std.specs.List.{list_all}
use Rattle.droid_signature_pattern.specs.Ends.{ends_in_byte}
use Rattle.droid_signature_pattern.proofs.Exits.{passed_on}
use Rattle.droid_signature_pattern.specs.Reasons.{IsReasonOfOne, IsReasonOfRow, IsReasonOfSequence}
use Rattle.droid_signature_pattern.proofs.Taken.{is_taken, is_left_out}
use Rattle.droid_signature_pattern.proofs.choices.choices_of_sequence.Goals as goal

pub returns-in_err-read-clause-left_out : goal.returns-in_err-read-clause-left_out
returns-in_err-read-clause-left_out c = passed_on (λ reason. IsReasonOfOne reason c.args.sequence.now) (IsReasonOfSequence c.args.sequence.now) c.from_residual.result _ c.from_residual.ensures.1 (λ reason h. inl h) c.in_err-read.ensures.err

pub returns-in_err-texts-clause-left_out : goal.returns-in_err-texts-clause-left_out
returns-in_err-texts-clause-left_out c =
    let read = c.in_ok-read.read in
    passed_on (λ reason. IsReasonOfOne reason c.args.sequence.now) (IsReasonOfRow read.first read.further.items) c.from_residual-in_err-texts.result _ c.from_residual-in_err-texts.ensures.1
    (λ reason h. inr (read.offsets, read.first, read.further.items, c.in_ok-read.ensures.ok, inl h)) c.in_err-texts.ensures.err

pub returns-then-not-end_in_bytes-clause-left_out : goal.returns-then-not-end_in_bytes-clause-left_out
returns-then-not-end_in_bytes-clause-left_out c =
    let read = c.in_ok-read.read in
    is_left_out c.args.sequence.now read.offsets read.first read.further.items c.in_ok-read.ensures.ok c.in_ok-texts.texts c.in_ok-texts.ensures.ok (sym (c.if-not-end_in_bytes.ensures ∙ ap (list_all ends_in_byte) c.as_slice.ensures))

pub returns-clause-taken : goal.returns-clause-taken
returns-clause-taken c =
    let read = c.in_ok-read.read in
    is_taken c.args.sequence.now (record { offsets = read.offsets; texts = c.in_ok-texts.texts }) read.first read.further.items c.in_ok-read.ensures.ok c.in_ok-texts.ensures.ok c.in_ok-texts.ensures.small (sym (c.if-not-end_in_bytes.ensures ∙ ap (list_all ends_in_byte) c.as_slice.ensures))
