-- Each form of an item, by its first character.
use Rattle.std.proofs.Common.{◌∷◌, refl, ap, ◌∙◌, arith}
use Rattle.droid_signature_pattern.specs.TextFronts.{InBraces, InBrackets, InQuotes}
use Rattle.droid_signature_pattern.proofs.FaultLemmas.{passed_on}
use Rattle.droid_signature_pattern.proofs.ItemFronts.{opens_braces, opens_brackets, opens_quotes, spells_braces, spells_brackets, spells_quotes, same_braces, same_brackets, same_quotes, only_plain_braces, marked_front, unmarked_front, bad_front, star_front, pair_front, no_pair_front}
use Rattle.droid_signature_pattern.proofs.item_parser.item_of.Goals as goal

pub returns-in-42-clause-front : goal.returns-in-42-clause-front
returns-in-42-clause-front c =
    let whole = (rw c.in_ok-first.ensures.ok_part at c.split_first.ensures.cases).0 in
    star_front c.args.text.now c.in_ok-first.after.now (whole ∙ ap (λ x. x ∷ c.in_ok-first.after.now) c.in-42.is)

pub returns-in_err-body-in-123-clause-bad : goal.returns-in_err-body-in-123-clause-bad
returns-in_err-body-in-123-clause-bad c = λ _.
    let after = c.in_ok-first.after.now in
    let whole = (rw c.in_ok-first.ensures.ok_part at c.split_first.ensures.cases).0 ∙ ap (λ x. x ∷ after) c.in-123.is in
    unmarked_front 123 125 InBraces opens_braces c.args.text.now after whole (rw c.in_err-body-in-123.ensures.ok_part at c.split_at_mark.ensures)

pub returns-in_err-item-in-123-clause-bad : goal.returns-in_err-item-in-123-clause-bad
returns-in_err-item-in-123-clause-bad c = λ was.
    let after = c.in_ok-first.after.now in
    let whole = (rw c.in_ok-first.ensures.ok_part at c.split_first.ensures.cases).0 ∙ ap (λ x. x ∷ after) c.in-123.is in
    let cut = rw c.in_ok-body-in-123.ensures.ok_part at c.split_at_mark.ensures in
    bad_front 123 125 InBraces opens_braces c.args.text.now after c.in_ok-body-in-123.body.now c.in_ok-body-in-123.rest.now whole cut.0 cut.1
    (only_plain_braces c.in_ok-body-in-123.body.now (rw c.in_err-item-in-123.ensures.ok_part at c.gap_of.ensures))

pub returns-in_ok-item-in-123-clause-front : goal.returns-in_ok-item-in-123-clause-front
returns-in_ok-item-in-123-clause-front c =
    let after = c.in_ok-first.after.now in
    let whole = (rw c.in_ok-first.ensures.ok_part at c.split_first.ensures.cases).0 ∙ ap (λ x. x ∷ after) c.in-123.is in
    let cut = rw c.in_ok-body-in-123.ensures.ok_part at c.split_at_mark.ensures in
    marked_front 123 125 InBraces opens_braces spells_braces same_braces c.args.text.now after c.in_ok-body-in-123.body.now c.in_ok-body-in-123.rest.now _ whole cut.0 cut.1 (rw c.in_ok-item-in-123.ensures.ok_part at c.gap_of.ensures)

pub returns-in_err-body-in-91-clause-bad : goal.returns-in_err-body-in-91-clause-bad
returns-in_err-body-in-91-clause-bad c = λ _.
    let after = c.in_ok-first.after.now in
    let whole = (rw c.in_ok-first.ensures.ok_part at c.split_first.ensures.cases).0 ∙ ap (λ x. x ∷ after) c.in-91.is in
    unmarked_front 91 93 InBrackets opens_brackets c.args.text.now after whole (rw c.in_err-body-in-91.ensures.ok_part at c.split_at_mark-in-91.ensures)

pub returns-in_err-item-in-91-clause-bad : goal.returns-in_err-item-in-91-clause-bad
returns-in_err-item-in-91-clause-bad c = λ was.
    let after = c.in_ok-first.after.now in
    let whole = (rw c.in_ok-first.ensures.ok_part at c.split_first.ensures.cases).0 ∙ ap (λ x. x ∷ after) c.in-91.is in
    let cut = rw c.in_ok-body-in-91.ensures.ok_part at c.split_at_mark-in-91.ensures in
    bad_front 91 93 InBrackets opens_brackets c.args.text.now after c.in_ok-body-in-91.body.now c.in_ok-body-in-91.rest.now whole cut.0 cut.1
    (c.in_err-item-in-91.ensures.bad (passed_on c.from_residual-in_err-item-in-91.result _ c.from_residual-in_err-item-in-91.ensures.1 was))

pub returns-in_ok-item-in-91-clause-front : goal.returns-in_ok-item-in-91-clause-front
returns-in_ok-item-in-91-clause-front c =
    let after = c.in_ok-first.after.now in
    let whole = (rw c.in_ok-first.ensures.ok_part at c.split_first.ensures.cases).0 ∙ ap (λ x. x ∷ after) c.in-91.is in
    let cut = rw c.in_ok-body-in-91.ensures.ok_part at c.split_at_mark-in-91.ensures in
    marked_front 91 93 InBrackets opens_brackets spells_brackets same_brackets c.args.text.now after c.in_ok-body-in-91.body.now c.in_ok-body-in-91.rest.now _ whole cut.0 cut.1 c.in_ok-item-in-91.ensures.spelled

pub returns-in_err-body-in-39-clause-bad : goal.returns-in_err-body-in-39-clause-bad
returns-in_err-body-in-39-clause-bad c = λ _.
    let after = c.in_ok-first.after.now in
    let whole = (rw c.in_ok-first.ensures.ok_part at c.split_first.ensures.cases).0 ∙ ap (λ x. x ∷ after) c.in-39.is in
    unmarked_front 39 39 InQuotes opens_quotes c.args.text.now after whole (rw c.in_err-body-in-39.ensures.ok_part at c.split_at_mark-in-39.ensures)

pub quoted_of-requires : goal.quoted_of-requires
quoted_of-requires c = (rw c.in_ok-body-in-39.ensures.ok_part at c.split_at_mark-in-39.ensures).1

pub returns-in_err-item-in-39-clause-bad : goal.returns-in_err-item-in-39-clause-bad
returns-in_err-item-in-39-clause-bad c = λ was.
    let after = c.in_ok-first.after.now in
    let whole = (rw c.in_ok-first.ensures.ok_part at c.split_first.ensures.cases).0 ∙ ap (λ x. x ∷ after) c.in-39.is in
    let cut = rw c.in_ok-body-in-39.ensures.ok_part at c.split_at_mark-in-39.ensures in
    bad_front 39 39 InQuotes opens_quotes c.args.text.now after c.in_ok-body-in-39.body.now c.in_ok-body-in-39.rest.now whole cut.0 cut.1
    (c.in_err-item-in-39.ensures.bad (passed_on c.from_residual-in_err-item-in-39.result _ c.from_residual-in_err-item-in-39.ensures.1 was))

pub returns-in_ok-item-in-39-clause-front : goal.returns-in_ok-item-in-39-clause-front
returns-in_ok-item-in-39-clause-front c =
    let after = c.in_ok-first.after.now in
    let whole = (rw c.in_ok-first.ensures.ok_part at c.split_first.ensures.cases).0 ∙ ap (λ x. x ∷ after) c.in-39.is in
    let cut = rw c.in_ok-body-in-39.ensures.ok_part at c.split_at_mark-in-39.ensures in
    marked_front 39 39 InQuotes opens_quotes spells_quotes same_quotes c.args.text.now after c.in_ok-body-in-39.body.now c.in_ok-body-in-39.rest.now _ whole cut.0 cut.1 c.in_ok-item-in-39.ensures.spelled

pub returns-in_err-item-in_default-clause-bad : goal.returns-in_err-item-in_default-clause-bad
returns-in_err-item-in_default-clause-bad c = λ _.
    let first = c.in_ok-first.first.now in
    let whole = (rw c.in_ok-first.ensures.ok_part at c.split_first.ensures.cases).0 in
    let cut = (rw c.in_ok-second-in_default.ensures.ok_part at c.split_first-in_default.ensures.cases).0 in
    no_pair_front first (λ e. absurd (omega arith)) (λ e. absurd (omega arith)) (λ e. absurd (omega arith)) (λ e. absurd (omega arith))
    c.args.text.now c.in_ok-first.after.now c.in_ok-second-in_default.rest.now c.in_ok-second-in_default.second.now whole cut (rw c.in_err-item-in_default.ensures.ok_part at c.item_of_pair.ensures)

pub returns-in_ok-item-in_default-clause-front : goal.returns-in_ok-item-in_default-clause-front
returns-in_ok-item-in_default-clause-front c =
    let first = c.in_ok-first.first.now in
    let whole = (rw c.in_ok-first.ensures.ok_part at c.split_first.ensures.cases).0 in
    let cut = (rw c.in_ok-second-in_default.ensures.ok_part at c.split_first-in_default.ensures.cases).0 in
    pair_front first (λ e. absurd (omega arith)) (λ e. absurd (omega arith)) (λ e. absurd (omega arith)) (λ e. absurd (omega arith))
    c.args.text.now c.in_ok-first.after.now c.in_ok-second-in_default.rest.now c.in_ok-second-in_default.second.now _ whole cut (rw c.in_ok-item-in_default.ensures.ok_part at c.item_of_pair.ensures)
