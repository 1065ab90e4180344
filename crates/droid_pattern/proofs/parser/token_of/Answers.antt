-- Each form of an element, by its first character.
use Rattle.std.proofs.Common.{◌∷◌, refl, ap, ◌∙◌, arith}
use Rattle.droid_pattern.specs.Fronts.{SpellsInBraces, SpellsInBrackets}
use Rattle.droid_pattern.proofs.FaultLemmas.{passed_on}
use Rattle.droid_pattern.proofs.FrontLemmas.{SpellsInParentheses, opens_braces, opens_brackets, opens_parentheses, spells_braces, spells_brackets, spells_parentheses, same_braces, same_brackets, same_parentheses, marked_front, unmarked_front, bad_front, star_front, two_front, no_two_front}
use Rattle.droid_pattern.proofs.parser.token_of.Goals as goal

pub returns-in-42-clause-front : goal.returns-in-42-clause-front
returns-in-42-clause-front c =
    let whole = (rw c.in_ok-first.ensures.ok_part at c.split_first.ensures.cases).0 in
    star_front c.args.text.now c.in_ok-first.after.now (whole ∙ ap (λ x. x ∷ c.in_ok-first.after.now) c.in-42.is)

pub returns-in_err-body-in-123-clause-bad : goal.returns-in_err-body-in-123-clause-bad
returns-in_err-body-in-123-clause-bad c = λ _.
    let after = c.in_ok-first.after.now in
    let whole = (rw c.in_ok-first.ensures.ok_part at c.split_first.ensures.cases).0 ∙ ap (λ x. x ∷ after) c.in-123.is in
    unmarked_front 123 125 SpellsInBraces opens_braces c.args.text.now after whole (rw c.in_err-body-in-123.ensures.ok_part at c.split_at_mark.ensures)

pub returns-in_err-token-in-123-clause-bad : goal.returns-in_err-token-in-123-clause-bad
returns-in_err-token-in-123-clause-bad c = λ was.
    let after = c.in_ok-first.after.now in
    let whole = (rw c.in_ok-first.ensures.ok_part at c.split_first.ensures.cases).0 ∙ ap (λ x. x ∷ after) c.in-123.is in
    let cut = rw c.in_ok-body-in-123.ensures.ok_part at c.split_at_mark.ensures in
    bad_front 123 125 SpellsInBraces opens_braces c.args.text.now after c.in_ok-body-in-123.body.now c.in_ok-body-in-123.rest.now whole cut.0 cut.1 (rw c.in_err-token-in-123.ensures.ok_part at c.gap_of.ensures)

pub returns-in_ok-token-in-123-clause-front : goal.returns-in_ok-token-in-123-clause-front
returns-in_ok-token-in-123-clause-front c =
    let after = c.in_ok-first.after.now in
    let whole = (rw c.in_ok-first.ensures.ok_part at c.split_first.ensures.cases).0 ∙ ap (λ x. x ∷ after) c.in-123.is in
    let cut = rw c.in_ok-body-in-123.ensures.ok_part at c.split_at_mark.ensures in
    marked_front 123 125 SpellsInBraces opens_braces spells_braces same_braces c.args.text.now after c.in_ok-body-in-123.body.now c.in_ok-body-in-123.rest.now _ whole cut.0 cut.1 (rw c.in_ok-token-in-123.ensures.ok_part at c.gap_of.ensures)

pub returns-in_err-body-in-91-clause-bad : goal.returns-in_err-body-in-91-clause-bad
returns-in_err-body-in-91-clause-bad c = λ _.
    let after = c.in_ok-first.after.now in
    let whole = (rw c.in_ok-first.ensures.ok_part at c.split_first.ensures.cases).0 ∙ ap (λ x. x ∷ after) c.in-91.is in
    unmarked_front 91 93 SpellsInBrackets opens_brackets c.args.text.now after whole (rw c.in_err-body-in-91.ensures.ok_part at c.split_at_mark-in-91.ensures)

pub returns-in_err-class-in-91-clause-bad : goal.returns-in_err-class-in-91-clause-bad
returns-in_err-class-in-91-clause-bad c = λ was.
    let after = c.in_ok-first.after.now in
    let whole = (rw c.in_ok-first.ensures.ok_part at c.split_first.ensures.cases).0 ∙ ap (λ x. x ∷ after) c.in-91.is in
    let cut = rw c.in_ok-body-in-91.ensures.ok_part at c.split_at_mark-in-91.ensures in
    bad_front 91 93 SpellsInBrackets opens_brackets c.args.text.now after c.in_ok-body-in-91.body.now c.in_ok-body-in-91.rest.now whole cut.0 cut.1 (rw c.in_err-class-in-91.ensures.ok_part at c.class_of.ensures)

pub returns-in_ok-class-in-91-clause-front : goal.returns-in_ok-class-in-91-clause-front
returns-in_ok-class-in-91-clause-front c =
    let after = c.in_ok-first.after.now in
    let whole = (rw c.in_ok-first.ensures.ok_part at c.split_first.ensures.cases).0 ∙ ap (λ x. x ∷ after) c.in-91.is in
    let cut = rw c.in_ok-body-in-91.ensures.ok_part at c.split_at_mark-in-91.ensures in
    marked_front 91 93 SpellsInBrackets opens_brackets spells_brackets same_brackets c.args.text.now after c.in_ok-body-in-91.body.now c.in_ok-body-in-91.rest.now _ whole cut.0 cut.1 (rw c.in_ok-class-in-91.ensures.ok_part at c.class_of.ensures)

pub returns-in_err-body-in-40-clause-bad : goal.returns-in_err-body-in-40-clause-bad
returns-in_err-body-in-40-clause-bad c = λ _.
    let after = c.in_ok-first.after.now in
    let whole = (rw c.in_ok-first.ensures.ok_part at c.split_first.ensures.cases).0 ∙ ap (λ x. x ∷ after) c.in-40.is in
    unmarked_front 40 41 SpellsInParentheses opens_parentheses c.args.text.now after whole (rw c.in_err-body-in-40.ensures.ok_part at c.split_at_mark-in-40.ensures)

pub returns-in_err-alternatives-in-40-clause-bad : goal.returns-in_err-alternatives-in-40-clause-bad
returns-in_err-alternatives-in-40-clause-bad c = λ was.
    let after = c.in_ok-first.after.now in
    let whole = (rw c.in_ok-first.ensures.ok_part at c.split_first.ensures.cases).0 ∙ ap (λ x. x ∷ after) c.in-40.is in
    let cut = rw c.in_ok-body-in-40.ensures.ok_part at c.split_at_mark-in-40.ensures in
    bad_front 40 41 SpellsInParentheses opens_parentheses c.args.text.now after c.in_ok-body-in-40.body.now c.in_ok-body-in-40.rest.now whole cut.0 cut.1 (λ e h. c.in_err-alternatives-in-40.ensures.bad (passed_on c.from_residual-in_err-alternatives-in-40.result _ c.from_residual-in_err-alternatives-in-40.ensures.1 was) h.0 h.2)

pub returns-in_ok-alternatives-in-40-clause-front : goal.returns-in_ok-alternatives-in-40-clause-front
returns-in_ok-alternatives-in-40-clause-front c =
    let after = c.in_ok-first.after.now in
    let whole = (rw c.in_ok-first.ensures.ok_part at c.split_first.ensures.cases).0 ∙ ap (λ x. x ∷ after) c.in-40.is in
    let cut = rw c.in_ok-body-in-40.ensures.ok_part at c.split_at_mark-in-40.ensures in
    marked_front 40 41 SpellsInParentheses opens_parentheses spells_parentheses same_parentheses c.args.text.now after c.in_ok-body-in-40.body.now c.in_ok-body-in-40.rest.now _ whole cut.0 cut.1 (_, refl, c.in_ok-alternatives-in-40.ensures.spelled)

pub returns-in_err-token-in_default-clause-bad : goal.returns-in_err-token-in_default-clause-bad
returns-in_err-token-in_default-clause-bad c = λ _.
    let first = c.in_ok-first.first.now in
    let whole = (rw c.in_ok-first.ensures.ok_part at c.split_first.ensures.cases).0 in
    let cut = (rw c.in_ok-second-in_default.ensures.ok_part at c.split_first-in_default.ensures.cases).0 in
    no_two_front first (λ e. absurd (omega arith)) (λ e. absurd (omega arith)) (λ e. absurd (omega arith)) (λ e. absurd (omega arith))
    c.args.text.now c.in_ok-first.after.now c.in_ok-second-in_default.rest.now c.in_ok-second-in_default.second.now whole cut (rw c.in_err-token-in_default.ensures.ok_part at c.token_of_pair.ensures)

pub returns-in_ok-token-in_default-clause-front : goal.returns-in_ok-token-in_default-clause-front
returns-in_ok-token-in_default-clause-front c =
    let first = c.in_ok-first.first.now in
    let whole = (rw c.in_ok-first.ensures.ok_part at c.split_first.ensures.cases).0 in
    let cut = (rw c.in_ok-second-in_default.ensures.ok_part at c.split_first-in_default.ensures.cases).0 in
    two_front first (λ e. absurd (omega arith)) (λ e. absurd (omega arith)) (λ e. absurd (omega arith)) (λ e. absurd (omega arith))
    c.args.text.now c.in_ok-first.after.now c.in_ok-second-in_default.rest.now c.in_ok-second-in_default.second.now _ whole cut (rw c.in_ok-token-in_default.ensures.ok_part at c.token_of_pair.ensures)
