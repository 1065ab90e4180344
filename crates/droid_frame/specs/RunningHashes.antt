-- Hashes of bytes that come in parts.
use Rattle.std.specs.Prelude.{ℕ, List}
use Rattle.md5.specs.Md5.{Holds}
use Rattle.sha2.specs.Hashers.{Holds256}
use Rattle.droid_frame.specs.declared.hash_kind.HashKind.{HashKind}
use Rattle.droid_frame.specs.declared.hash_kind.HashKind.TheVariants as kinds
use Rattle.droid_frame.specs.declared.running_hash.RunningHash.{RunningHash}
use Rattle.droid_frame.specs.declared.running_hash.RunningHash.TheVariants as running

-- the kind of hash that it computes
abbrev pub running_kind : RunningHash → HashKind
running_kind running.Nothing = kinds.Nothing
running_kind (running.Md5 hasher) = kinds.Md5
running_kind (running.Sha256 hasher) = kinds.Sha256

-- the hash covers exactly these bytes; without a hash, any bytes
abbrev pub HoldsAll : RunningHash → List ℕ → Type 0
HoldsAll running.Nothing bytes = Unit {0}
HoldsAll (running.Md5 hasher) bytes = Holds hasher bytes
HoldsAll (running.Sha256 hasher) bytes = Holds256 hasher bytes
