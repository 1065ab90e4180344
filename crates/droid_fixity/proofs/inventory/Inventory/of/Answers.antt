use Rattle.droid_fixity.proofs.Sorting.{in_order_from, twice_from}
use Rattle.droid_fixity.proofs.inventory.Inventory.of.Goals as goal

pub invariant_of-result : goal.invariant_of-result
invariant_of-result c = in_order_from c.sort_by_path.new.items.items (rw c.as_slice.ensures.value at c.in-None.ensures.none)

pub returns-in-Some-clause-twice : goal.returns-in-Some-clause-twice
returns-in-Some-clause-twice c =
    let some = rw c.as_slice.ensures.value at c.in-Some.ensures.some in
    twice_from c.args.items.items c.sort_by_path.new.items.items c.in-Some.place c.swap_remove-path.result c.sort_by_path.ensures.same c.sort_by_path.ensures.sorted some.0 some.1 some.2 c.swap_remove-path.ensures.value
