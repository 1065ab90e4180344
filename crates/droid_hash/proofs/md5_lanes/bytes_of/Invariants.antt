use Rattle.std.proofs.Common.{◌≡◌, ◌*◌, length, take}
use Rattle.md5.specs.Md5.{digest_bytes}
use Rattle.droid_hash.proofs.md5_lanes.bytes_of.Given as goal

abbrev pub invariant-words : goal.invariant-words
invariant-words l = (length l.out ≡ 16) × (take (4 * l.i) l.out ≡ digest_bytes l.h l.i)
