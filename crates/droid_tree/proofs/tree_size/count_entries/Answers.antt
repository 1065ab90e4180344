use Rattle.droid_tree.proofs.Tallies.{entries_all, entries_more, none_counted}
use Rattle.droid_tree.proofs.tree_size.count_entries.Goals as goal

pub loop-entry-init : goal.loop-entry-init
loop-entry-init c = none_counted _ _ _

pub loop-entry-preserved : goal.loop-entry-preserved
loop-entry-preserved c =
    entries_more _ c.args.entries.now c.loop-entry.entry-index c.entry-item.result _ _ _ _ _ _ c.loop-entry.invariant c.in_ok-counted.ensures.counted c.loop-entry-test.true c.entry-item.is

pub returns-clause-counted : goal.returns-clause-counted
returns-clause-counted c = entries_all _ c.args.entries.now c.loop-entry.entry-index _ _ _ _ c.loop-entry.invariant c.loop-entry-test.false
