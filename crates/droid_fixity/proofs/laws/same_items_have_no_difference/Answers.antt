use Rattle.droid_fixity.proofs.Same.{empty_report}
use Rattle.droid_fixity.proofs.laws.same_items_have_no_difference.Goals as goal

pub returns : goal.returns
returns c = λ items report in_order is. empty_report items report in_order is
