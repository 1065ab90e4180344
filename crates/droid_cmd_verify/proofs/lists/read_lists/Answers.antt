use Rattle.std.proofs.Common.{◌∙◌, Err, sym, subst}
use Rattle.droid_cmd_verify.specs.Lists.{IsComparedList}
use Rattle.droid_cmd_verify.specs.declared.verify_ending.VerifyEnding.{VerifyEnding}
use Rattle.droid_cmd_verify.proofs.ListReading.{says_by, unlisted_says}
use Rattle.droid_cmd_verify.proofs.lists.read_lists.Goals as goal

pub returns-else-not-may_measure : goal.returns-else-not-may_measure
returns-else-not-may_measure c = says_by c.args.in_bag c.args.how c.args.identify c.args.text.now c.in-Ok.listed c.in-Ok.rows c.with_formats.result c.in-Ok.ensures.says c.in-Ok.ensures.formats (sym c.may_measure.ensures ∙ c.if-not-may_measure.false) c.with_formats.ensures

pub returns-in-Err : goal.returns-in-Err
returns-in-Err c =
    subst (λ (ending : VerifyEnding). IsComparedList c.args.in_bag c.args.how c.args.identify c.args.text.now (Err ending)) (sym c.unlisted.ensures)
    (unlisted_says c.args.in_bag c.args.how c.args.identify c.args.text.now c.in-Err.fault c.in-Err.ensures.says)

pub returns-then-not-may_measure : goal.returns-then-not-may_measure
returns-then-not-may_measure c = (c.in-Ok.listed, c.in-Ok.ensures.says, sym c.may_measure.ensures ∙ c.if-not-may_measure.true)
