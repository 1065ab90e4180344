-- Which assemblies the unfinished files of a world have.
use Rattle.std.specs.Prelude.{◌≡◌, ℕ, length, Option, None, Some, MatchBool}
use Rattle.droid_assembly.specs.State.{State, hash_kind_of}
use Rattle.droid_assembly.specs.State as assemblies
use Rattle.droid_core_spec.specs.Files.{unfinished_in}
use Rattle.droid_core_spec.specs.World.{Content, Node, Folder, File, Abandoned, Profile, World, numbered}
use Rattle.droid_core.specs.Files.{OpenFile, OpenFiles, open_at}

-- the assembly has the file's size and piece size, and its profile's scan limit and kind of hash; it stands for the
-- file's pieces, with none pending
pub record IsAssemblyOf (profile : Profile) (content : Content) (assembly : State) : Type 0 where
  pub size : assembly.size ≡ content.size
  pub piece_size : assembly.piece_size ≡ content.piece_size
  pub scan_limit : assembly.scan_limit ≡ profile.scan_limit
  pub hash : hash_kind_of assembly ≡ profile.hash
  pub pieces : assemblies.StandsFor assembly content.pieces
  pub none_pending : assembly.pending ≡ None

-- there is an assembly, and it is that of the file
pub record IsOpenFor (profile : Profile) (content : Content) (found : Option OpenFile) : Type 0 where
  pub file : OpenFile
  pub there : found ≡ Some file
  pub assembled : IsAssemblyOf profile content file.assembly

-- an unfinished file has its assembly, and no other node has one
abbrev pub HasItsAssembly : Profile → Option Node → Option OpenFile → Type 0
HasItsAssembly profile None found = found ≡ None
HasItsAssembly profile (Some (Folder parent modified name)) found = found ≡ None
HasItsAssembly profile (Some (File parent modified name content)) found =
    MatchBool content.finished (found ≡ None) (IsOpenFor profile content found)
HasItsAssembly profile (Some Abandoned) found = found ≡ None

-- this holds of the node with this number in a profile, if there is one
abbrev pub HasItsAssemblyIn : Option Profile → ℕ → Option OpenFile → Type 0
HasItsAssemblyIn None id found = found ≡ None
HasItsAssemblyIn (Some profile) id found = HasItsAssembly profile (numbered profile.nodes id) found

-- each unfinished file of the world has one assembly, and there is no other assembly
pub record HasAssemblies (world : World) (files : OpenFiles) : Type 0 where
  pub each : (profile id : ℕ) → HasItsAssemblyIn (numbered world.profiles profile) id (open_at profile id files.files)
  pub count : length files.files ≡ unfinished_in world
