use Rattle.std.proofs.Common.{◌≡◌, ◌∙◌, ℕ, refl, subst, arith}
use Rattle.std.proofs.lemmas.List.{length-set}
use Rattle.droid_export.proofs.PlainRows.{Reads, reads_last, reads_more, reads_none, reads_shorter}
use Rattle.droid_export.proofs.reading.plain_row.PlainRow.first.Goals as goal

pub loop-place-init : goal.loop-place-init
loop-place-init c = (refl, reads_none c.args.text.now _)

pub loop-place-preserved : goal.loop-place-preserved
loop-place-preserved c =
    let inv = c.loop-place.invariant in (
      length-set c.loop-place.fields c.loop-place.place c.in_ok-field.field ∙ inv.0,
      reads_more c.args.text.now c.loop-place.rest.now c.in_ok-field.behind.now c.loop-place.fields c.loop-place.place c.in_ok-field.field
          (omega (arith, c.loop-place-test.true, inv.0)) c.in_ok-field.ensures inv.1,
    )

pub returns-clause-read : goal.returns-clause-read
returns-clause-read c =
    let inv = c.loop-place.invariant in
    let all : c.loop-place.place ≡ 17 = omega (arith, c.loop-place.auto.place-end, c.loop-place-test.false) in
    reads_last c.args.text.now c.loop-place.rest.now c.in_ok-field-2.behind.now c.loop-place.fields c.in_ok-field-2.field inv.0 c.in_ok-field-2.ensures
    (subst (λ (n : ℕ). Reads c.args.text.now c.loop-place.fields n c.loop-place.rest.now) all inv.1)

pub returns-clause-unmarked : goal.returns-clause-unmarked
returns-clause-unmarked c =
    c.loop-place.invariant.1.unmarked (omega (arith, c.loop-place.auto.place-end, c.loop-place-test.false))

pub returns-clause-shorter : goal.returns-clause-shorter
returns-clause-shorter c =
    let inv = c.loop-place.invariant in
    let all : c.loop-place.place ≡ 17 = omega (arith, c.loop-place.auto.place-end, c.loop-place-test.false) in
    reads_shorter c.args.text.now c.loop-place.rest.now c.in_ok-field-2.behind.now c.loop-place.fields c.in_ok-field-2.field.now c.in_ok-field-2.ensures
    (subst (λ (n : ℕ). Reads c.args.text.now c.loop-place.fields n c.loop-place.rest.now) all inv.1)
