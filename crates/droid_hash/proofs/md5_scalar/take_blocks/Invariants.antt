use Rattle.std.proofs.Common.{◌≡◌, fold, take}
use Rattle.md5.specs.Md5.{compress}
use Rattle.droid_hash.proofs.md5_scalar.take_blocks.Given as goal

abbrev pub invariant-each : goal.invariant-each
invariant-each l = l.state ≡ fold compress l.fn.state (take l.i l.run)
