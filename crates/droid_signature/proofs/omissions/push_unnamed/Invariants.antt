-- The first IDs are listed.
use Rattle.std.proofs.Common.{◌≡◌, ◌++◌, map, take}
use Rattle.droid_signature.specs.AllLeftOut.{unnamed_item}
use Rattle.droid_signature.proofs.omissions.push_unnamed.Given as goal

abbrev pub invariant-loop-id : goal.invariant-loop-id
invariant-loop-id l = l.all.items ≡ l.initial.all.items ++ map unnamed_item (take l.id-index l.ids)
