-- Eight files that are hashed side by side.
use Rattle.std.specs.Prelude.{ℕ, List}
use Rattle.droid_frame.specs.declared.hash_kind.HashKind.{HashKind}
use Rattle.droid_frame.specs.declared.hash_kind.HashKind.TheVariants as kinds
use Rattle.droid_hash.specs.Md5.{Holds}
use Rattle.droid_hash.specs.Halves.{HoldsOf}
use Rattle.droid_hash.specs.declared.hash_lanes.HashLanes.{HashLanes}
use Rattle.droid_hash.specs.declared.hash_lanes.HashLanes.TheVariants as lanes

-- the kind of hash that is made
abbrev pub lanes_kind : HashLanes → HashKind
lanes_kind lanes.Nothing = kinds.Nothing
lanes_kind (lanes.Md5 eight) = kinds.Md5
lanes_kind (lanes.Sha256 eight) = kinds.Sha256

-- exactly these bytes were taken in lane j; without a hash, any bytes
unfoldable pub Scanned : HashLanes → ℕ → List ℕ → Type 0
Scanned lanes.Nothing j bytes = Unit {0}
Scanned (lanes.Md5 eight) j bytes = Holds eight j bytes
Scanned (lanes.Sha256 eight) j bytes = HoldsOf eight j bytes
