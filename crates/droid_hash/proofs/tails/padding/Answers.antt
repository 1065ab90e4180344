use Rattle.std.proofs.Common.{◌-◌, ◌%◌, arith}
use Rattle.md5.proofs.Absorbing.{padding-take}
use Rattle.droid_hash.proofs.tails.padding.Goals as goal

pub returns : goal.returns
returns c = padding-take 0x80 0 ((119 - c.args.used) % 64) (omega arith)
