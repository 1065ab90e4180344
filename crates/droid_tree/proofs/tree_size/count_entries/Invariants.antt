use Rattle.std.proofs.Common.{take}
use Rattle.droid_tree.specs.Counts.{CountsItems}
use Rattle.droid_tree.proofs.tree_size.count_entries.Given as goal

abbrev pub invariant-loop-entry : goal.invariant-loop-entry
invariant-loop-entry l = CountsItems l.folder.path (take l.entry-index l.entries) l.fn.before l.counted l.fn.pending.items l.pending.items
