use Rattle.std.proofs.Common.{ℕ, Some, sym, ap, subst, ◌∙◌, arith}
use Rattle.droid_frame.proofs.RequestLaws.{spelled_once}
use Rattle.droid_remote.specs.Submitted.{IsSubmitted}
use Rattle.droid_remote.proofs.Bodies.{SpellsSubmitted, tested_is_spelled}
use Rattle.droid_remote.proofs.Ranges.{number_of-below}
use Rattle.droid_remote.proofs.Reading.{spelled_is_numbered, spelled_passes}
use Rattle.droid_remote.proofs.numbering.numbers.number_of.Goals as goal

pub returns-then-not-is_submitted-clause-number : goal.returns-then-not-is_submitted-clause-number
returns-then-not-is_submitted-clause-number c = λ request spelled submitted.
    let passes = spelled_passes c.args.kind c.args.body.now request spelled submitted in
    let fails = c.if-not-is_submitted.ensures in absurd cc

pub returns-then-not-is_submitted-clause-none : goal.returns-then-not-is_submitted-clause-none
returns-then-not-is_submitted-clause-none c = (
  (λ none request spelled submitted.
      let passes = spelled_passes c.args.kind c.args.body.now request spelled submitted in
      let fails = c.if-not-is_submitted.ensures in absurd cc),
  (λ nothing. cc),
)

pub returns-clause-number : goal.returns-clause-number
returns-clause-number c = λ request spelled submitted.
    ap (λ (n : ℕ). Some n) (c.number_by.ensures ∙ spelled_is_numbered c.args.name.now c.args.attempt c.args.kind c.args.body.now request spelled)

pub returns-clause-none : goal.returns-clause-none
returns-clause-none c =
    let found : SpellsSubmitted c.args.kind c.args.body.now = tested_is_spelled c.args.kind c.args.body.now (λ i. omega (arith, c.type_inv.body i)) (sym c.if-not-is_submitted.ensures) in
    ((λ none. absurd cc), (λ nothing. absurd (nothing found.request found.spelled found.submitted)))

pub returns-clause-submitted : goal.returns-clause-submitted
returns-clause-submitted c = λ request spelled.
    let found : SpellsSubmitted c.args.kind c.args.body.now = tested_is_spelled c.args.kind c.args.body.now (λ i. omega (arith, c.type_inv.body i)) (sym c.if-not-is_submitted.ensures) in
    subst IsSubmitted (spelled_once 2 c.args.kind c.args.body.now found.request request found.spelled spelled) found.submitted

pub returns-clause-below : goal.returns-clause-below
returns-clause-below c =
    let found : SpellsSubmitted c.args.kind c.args.body.now = tested_is_spelled c.args.kind c.args.body.now (λ i. omega (arith, c.type_inv.body i)) (sym c.if-not-is_submitted.ensures) in
    let is = c.number_by.ensures ∙ spelled_is_numbered c.args.name.now c.args.attempt c.args.kind c.args.body.now found.request found.spelled in
    omega (arith, is, number_of-below c.args.name.now c.args.attempt found.request)
