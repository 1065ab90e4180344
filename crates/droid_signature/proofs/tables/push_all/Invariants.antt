-- The first of them.
use Rattle.std.proofs.Common.{◌≡◌, ◌++◌, take}
use Rattle.droid_signature.proofs.tables.push_all.Given as goal

abbrev pub invariant-loop-it : goal.invariant-loop-it
invariant-loop-it l = l.left.items ≡ l.initial.left.items ++ take l.it-index l.more
