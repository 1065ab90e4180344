use Rattle.std.proofs.Common.{List, subst}
use Rattle.droid_fixity.specs.Reports.{IsReport}
use Rattle.droid_frame.specs.declared.item.Item.{Item}
use Rattle.droid_lists.proofs.SameInventories.{same_inventory}
use Rattle.droid_lists.proofs.agreement_law.the_items_of_the_list_agree.Goals as goal

pub returns : goal.returns
returns c = λ items listed found differences is also report.
    c.same_items_have_no_difference.ensures found differences also.in_order
    (subst (λ (its : List Item). IsReport its found differences) (same_inventory items listed found is also) report)
