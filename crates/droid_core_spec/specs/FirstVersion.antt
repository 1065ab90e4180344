-- What holds if all frames are of version 1 (this project's own).
use Rattle.std.specs.Prelude.{◌≡◌, ◌≤◌}
use Rattle.std.specs.List.{AllByRecursion}
use Rattle.droid_frame.specs.Fields.{IsBytes}
use Rattle.droid_frame.specs.declared.frame.Frame.{Frame}
use Rattle.droid_frame.specs.declared.hash_kind.HashKind.TheVariants as hashes
use Rattle.droid_core_spec.specs.World.{Node, Folder, File, Abandoned, Profile, World}

-- a frame of version 1
pub record IsOfVersion1 (frame : Frame) : Type 0 where
  pub version : frame.version ≡ 1
  pub bytes : IsBytes frame.body

-- the pieces of a file are no larger than version 1 allows
abbrev pub HasSmallPieces : Node → Type 0
HasSmallPieces (Folder parent modified name) = Unit {0}
HasSmallPieces (File parent modified name content) = content.piece_size ≤ 1048576
HasSmallPieces Abandoned = Unit {0}

-- the profile has MD5 as its hash, and the pieces of its files are no larger than version 1 allows
pub record IsProfileOfVersion1 (profile : Profile) : Type 0 where
  pub hash : profile.hash ≡ hashes.Md5
  pub nodes : AllByRecursion HasSmallPieces profile.nodes

-- this holds of each profile
abbrev pub IsWorldOfVersion1 : World → Type 0
IsWorldOfVersion1 world = AllByRecursion IsProfileOfVersion1 world.profiles
