use Rattle.std.proofs.Common.{◌≡◌, take}
use Rattle.droid_cmd_verify.specs.CheckedTrees.{readable_in}
use Rattle.droid_cmd_verify.proofs.readable_items.readable_in.Given as goal

abbrev pub invariant-loop-item : goal.invariant-loop-item
invariant-loop-item l = l.readable.items ≡ readable_in l.unreadable (take l.item-index l.items)
