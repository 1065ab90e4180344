-- A number, and what is none.
use Rattle.std.proofs.Common.{ap, sym, ◌∙◌, length}
use Rattle.std.specs.Prelude.{Ok}
use Rattle.std.proofs.lemmas.Bool.{eqb-true}
use Rattle.std.proofs.lemmas.Str.Parse.{parse_digits}
use Rattle.droid_signature_file.proofs.NumberForms.{is_read, nothing_read, others_not_read, own, some_by, unfit_not_read}
use Rattle.droid_signature_file.proofs.numbers.number.Goals as goal

pub returns-then-is_empty : goal.returns-then-is_empty
returns-then-is_empty c = nothing_read c.args.text.now (eqb-true (length c.args.text.now) 0 (sym c.if-is_empty.ensures))

pub returns-then-not-are_digits : goal.returns-then-not-are_digits
returns-then-not-are_digits c = others_not_read c.args.text.now (rw c.as_bytes.ensures.value at (sym c.if-not-are_digits.ensures))

pub returns-in-Ok : goal.returns-in-Ok
returns-in-Ok c =
    let digits = rw c.as_bytes.ensures.value at (sym c.if-not-are_digits.ensures) in
    let parsed = rw c.in-Ok.is at (parse_digits own 32 c.args.text.now c.parse.result c.parse.ensures.value.0 digits) in
    is_read c.args.text.now parsed.0.0 digits parsed.0.1 ∙ ap Ok (sym parsed.1)

pub returns-in-Err : goal.returns-in-Err
returns-in-Err c =
    let digits = rw c.as_bytes.ensures.value at (sym c.if-not-are_digits.ensures) in
    let unfit = rw c.in-Err.is at (parse_digits own 32 c.args.text.now c.parse.result c.parse.ensures.value.0 digits) in
    unfit_not_read c.args.text.now (some_by (length c.args.text.now) c.if-is_empty.ensures) unfit
