-- What holds of every world that accepted commands made: nodes lie in folders, and moments, sizes and scan limits are
-- in range.
use Rattle.std.specs.Prelude.{◌≡◌, ℕ, zero, suc, Bool, true, false, IsTrue, List, Option, Some, None}
use Rattle.std.specs.List.{AllByRecursion}
use Rattle.droid_core_spec.specs.Conditions.{is_moment, is_piece_size, is_scan_limit, is_too_large}
use Rattle.droid_core_spec.specs.World.{Node, Folder, File, Abandoned, Profile, World, node_at}

-- there is a node, and it is a folder
abbrev pub is_folder : Option Node → Bool
is_folder None = false
is_folder (Some (Folder parent modified name)) = true
is_folder (Some (File parent modified name content)) = false
is_folder (Some Abandoned) = false

-- the top, or a folder
abbrev pub IsPlace : List Node → ℕ → Type 0
IsPlace nodes zero = Unit {0}
IsPlace nodes (suc place) = IsTrue (is_folder (node_at nodes (suc place)))

-- the sizes of a file are in range; for its pieces that is the range of version 2, which contains that of version 1
pub record IsSized (size piece_size : ℕ) : Type 0 where
  pub pieces : IsTrue (is_piece_size 2 piece_size)
  pub whole : is_too_large size piece_size ≡ false

-- it lies in a folder or at the top, and its moment and its sizes are in range
abbrev pub IsSoundNode : List Node → Node → Type 0
IsSoundNode nodes (Folder parent modified name) = IsPlace nodes parent × IsTrue (is_moment modified)
IsSoundNode nodes (File parent modified name content) =
    IsPlace nodes parent × IsTrue (is_moment modified) × IsSized content.size content.piece_size
IsSoundNode nodes Abandoned = Unit {0}

-- its scan limit is in range, and each of its nodes is sound
pub record IsSoundProfile (profile : Profile) : Type 0 where
  pub scan_limit : IsTrue (is_scan_limit profile.scan_limit)
  pub nodes : AllByRecursion (IsSoundNode profile.nodes) profile.nodes

-- each profile is sound
abbrev pub IsSoundWorld : World → Type 0
IsSoundWorld world = AllByRecursion IsSoundProfile world.profiles
