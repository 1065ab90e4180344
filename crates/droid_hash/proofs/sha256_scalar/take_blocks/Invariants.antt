use Rattle.std.proofs.Common.{◌≡◌, fold, take}
use Rattle.sha2.specs.Sha256.{compress}
use Rattle.droid_hash.proofs.sha256_scalar.take_blocks.Given as goal

abbrev pub invariant-each : goal.invariant-each
invariant-each l = l.state ≡ fold compress l.fn.state (take l.i l.run)
