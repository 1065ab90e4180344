-- For inner clauses and proofs: what the look-ups of a file and of an unfinished file find of a world.
use Rattle.std.specs.Prelude.{◌≡◌, ℕ, ℤ, true, false, if◌then◌else◌, List, Option, None, Some, MatchBool, ⊤, Result, Ok}
use Rattle.std.specs.Prelude.{Err}
use Rattle.std.specs.List.{slice_get}
use Rattle.droid_core.specs.Files.{OpenFiles, open_at}
use Rattle.droid_frame.specs.declared.refusal.Refusal.{Refusal}
use Rattle.droid_frame.specs.declared.refusal.Refusal.TheVariants.{AlreadyFinished, Memory, NoSuchNode}
use Rattle.droid_core_spec.specs.Judging.{Verdict, Refuses, in_profile, in_file}
use Rattle.droid_core_spec.specs.MemoryFaults.{is_out_of_memory_of}
use Rattle.droid_core_spec.specs.World.{Content, File, Profile, World, numbered, node_at}
use Rattle.droid_core.specs.Assemblies.{IsOpenFor}
use Rattle.droid_core.specs.Rows.{profile_row}
use Rattle.droid_store.specs.declared.fault.StoreFault.{StoreFault}
use Rattle.droid_store.specs.declared.rows.NodeRow.{NodeRow}
use Rattle.droid_store.specs.declared.rows.NodeState.{NodeState}
use Rattle.droid_store.specs.declared.rows.NodeState.TheVariants.{Unfinished, Finished}
use Rattle.droid_core.specs.declared.file_rows.FileRow.{FileRow}
use Rattle.droid_core.specs.declared.file_rows.UnfinishedRow.{UnfinishedRow}

-- from what the store returned: the node's row, or that there is no such node, or that memory ran out
abbrev pub node_in : Result (Option NodeRow) StoreFault → Result NodeRow Refusal
node_in (Ok (Some row)) = Ok row
node_in (Ok None) = Err NoSuchNode
node_in (Err fault) = Err Memory

-- the state that the row of such a file says
abbrev pub state_of : Content → NodeState
state_of content = if content.finished then Finished else Unfinished

-- the world has the file, and these are its row and its profile's
pub record HasFile (world : World) (which id : ℕ) (row : FileRow) : Type 0 where
  pub profile : Profile
  pub parent : ℕ
  pub modified : ℤ
  pub name : List ℕ
  pub content : Content
  pub there : numbered world.profiles which ≡ Some profile
  pub at : node_at profile.nodes id ≡ Some (File parent modified name content)
  pub profile_is : row.profile ≡ profile_row profile
  pub state_is : row.node.state ≡ state_of content
  pub name_is : row.node.item.name ≡ name
  pub size_is : row.node.item.size ≡ content.size
  pub piece_size_is : row.node.piece_size ≡ content.piece_size

-- the verdict on a request for a file
abbrev pub for_file : World → ℕ → ℕ → (Profile → ℕ → ℤ → List ℕ → Content → Verdict) → Verdict
for_file world profile id judge_there =
    in_profile (numbered world.profiles profile) (λ its. in_file (node_at its.nodes id) (judge_there its))

-- the file's row; or each request for the file is refused so, or memory ran out
abbrev pub FindsFile : World → ℕ → ℕ → Result FileRow Refusal → Type 0
FindsFile world profile id (Ok row) = HasFile world profile id row
FindsFile world profile id (Err refusal) =
    MatchBool (is_out_of_memory_of refusal) ⊤ ((judge_there : Profile → ℕ → ℤ → List ℕ → Content → Verdict)
    → for_file world profile id judge_there ≡ Refuses refusal)

-- the world has the file, which is unfinished; these are its rows, and its assembly is at this place
pub record HasUnfinished (world : World) (files : OpenFiles) (which id : ℕ) (found : UnfinishedRow) : Type 0 where
  pub file : HasFile world which id found.row
  pub unfinished : file.content.finished ≡ false
  pub its : IsOpenFor file.profile file.content (open_at which id files.files)
  pub place : slice_get files.files found.place ≡ open_at which id files.files

-- the request is refused for a finished file
abbrev pub RefusesFinished : (Profile → ℕ → ℤ → List ℕ → Content → Verdict) → Type 0
RefusesFinished judge_there =
    (its : Profile) (parent : ℕ) (modified : ℤ) (name : List ℕ) (content : Content) → content.finished ≡ true
    → judge_there its parent modified name content ≡ Refuses AlreadyFinished

-- the unfinished file; or each request for the file that needs an unfinished one is refused so, or memory ran out
abbrev pub FindsUnfinished : World → OpenFiles → ℕ → ℕ → Result UnfinishedRow Refusal → Type 0
FindsUnfinished world files profile id (Ok found) = HasUnfinished world files profile id found
FindsUnfinished world files profile id (Err refusal) =
    MatchBool (is_out_of_memory_of refusal) ⊤ ((judge_there : Profile → ℕ → ℤ → List ℕ → Content → Verdict)
    → RefusesFinished judge_there → for_file world profile id judge_there ≡ Refuses refusal)
