use Rattle.droid_tree.proofs.NameFronts.{less_found, greater_found}
use Rattle.droid_tree.proofs.name_order.order_of_names.Goals as goal

pub returns-in-Less : goal.returns-in-Less
returns-in-Less c =
    less_found c.args.first.now c.args.second.now c.in-Some.front c.in-Some-front_of.other
    (rw c.in-Some.is at c.front_of.ensures) (rw c.in-Some-front_of.is at c.front_of-2.ensures) c.in-Less.ensures

pub returns-in-Greater : goal.returns-in-Greater
returns-in-Greater c =
    greater_found c.args.first.now c.args.second.now c.in-Some.front c.in-Some-front_of.other
    (rw c.in-Some.is at c.front_of.ensures) (rw c.in-Some-front_of.is at c.front_of-2.ensures) c.in-Greater.ensures
