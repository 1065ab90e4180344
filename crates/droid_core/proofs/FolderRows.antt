-- What the row of a node says of the folder of a new node.
use Rattle.std.proofs.Common.{◌≡◌, ◌≢◌, inl, inr, ℕ, zero, suc, ℤ, List, [], true, false, Option, Some, None, Result, Ok, Err, IfOk, IfErr, option_map, is_none, slice_get, refl, sym, ap, ◌∙◌}
use Rattle.std.proofs.lemmas.Bool.{cases_Bool}
use Rattle.std.specs.Prelude.{MatchBool, ⊤}
use Rattle.droid_frame.specs.declared.refusal.Refusal.{Refusal}
use Rattle.droid_frame.specs.declared.refusal.Refusal.TheVariants.{NoSuchNode, NotAFolder}
use Rattle.droid_core_spec.specs.Conditions.{is_missing, is_file}
use Rattle.droid_core_spec.specs.Setting.{Setting}
use Rattle.droid_core_spec.specs.MemoryFaults.{is_out_of_memory_of}
use Rattle.droid_core_spec.specs.World.{Content, Node, Folder, File, Abandoned, Profile, World, numbered, unless_abandoned, path}
use Rattle.droid_store.specs.Changes.{new_file, new_folder}
use Rattle.droid_store.specs.declared.rows.NodeRow.{NodeRow}
use Rattle.droid_store.specs.declared.rows.NodeState.TheVariants as state
use Rattle.droid_store.specs.Rows.{Rows, node_at, row_of}
use Rattle.droid_core.specs.Rows.{file_row, stored_in, stored, KeepsWorld}
use Rattle.droid_core.proofs.LookUps.{node_found}
use Rattle.droid_core.specs.Places.{IsFolderPath, FindsFolder}
use Rattle.droid_core.proofs.Staying.{if_refused}

pub top_found : (profile : Profile) (parent : ℕ) (found : List ℕ) → parent ≡ 0 → found ≡ [] → IsFolderPath profile parent found
unfolding is_missing is_file
top_found profile parent found top empty = rw (top, empty) (record { there = refl; no_file = refl; path_is = refl })

-- the row of a node that was not abandoned: a folder's has its path, and any other is a file's
record IsRowOf (node : Option Node) (way : List ℕ) (row : NodeRow) : Type 0 where
  there : is_none (unless_abandoned node) ≡ false
  folder : row.state ≡ state.Folder → (is_file (unless_abandoned node) ≡ false) × (row.item.path ≡ way)
  file : row.state ≢ state.Folder → is_file (unless_abandoned node) ≡ true

unfinished_or_finished : (setting : Setting) (profile : Profile) (name : List ℕ) (content : Content) (number id parent : ℕ) (modified : ℤ) (way : List ℕ)
    → (file_row setting profile name content (new_file number id parent modified content.size content.piece_size name way)).state ≢ state.Folder
unfinished_or_finished setting profile name content number id parent modified way = elim (cases_Bool content.finished) [
  | inl is ↦ rw is (λ wrong. cc)
  | inr isnt ↦ rw isnt (λ wrong. cc)
]

module _ (setting : Setting) (number : ℕ) (profile : Profile) (id : ℕ) where
  row_said : (node : Option Node) (row : NodeRow) → Some row ≡ option_map row_of (stored_in setting number profile id node) → IsRowOf node (path profile.nodes id) row
  unfolding is_file
  row_said None row is = absurd cc
  row_said (Some (Folder parent modified name)) row is =
      let same : row ≡ row_of (new_folder number id parent modified name (path profile.nodes id)) = cc in
      record { there = refl; folder = λ folder. (refl, ap (λ (r : NodeRow). r.item.path) same); file = λ other. absurd (other (ap (λ (r : NodeRow). r.state) same)) }
  row_said (Some (File parent modified name content)) row is =
      let plain = new_file number id parent modified content.size content.piece_size name (path profile.nodes id) in
      let same : row ≡ row_of (file_row setting profile name content plain) = cc in
      record { there = refl; folder = λ folder. absurd (unfinished_or_finished setting profile name content number id parent modified (path profile.nodes id) (sym (ap (λ (r : NodeRow). r.state) same) ∙ folder)); file = λ other. refl }
  row_said (Some Abandoned) row is = absurd cc

  no_row_said : (node : Option Node) → None ≡ option_map row_of (stored_in setting number profile id node) → is_none (unless_abandoned node) ≡ true
  no_row_said None is = refl
  no_row_said (Some (Folder parent modified name)) is = absurd cc
  no_row_said (Some (File parent modified name content)) is = absurd cc
  no_row_said (Some Abandoned) is = refl

module _ (setting : Setting) (world : World) (rows : Rows) (number : ℕ) (profile : Profile) (keeps : KeepsWorld setting world rows) (found : numbered world.profiles number ≡ Some profile) where
  node_is : (id : ℕ) → node_at number id rows ≡ stored_in setting number profile id (numbered profile.nodes id)
  node_is id = node_found setting world rows number id keeps.nodes ∙ ap (stored setting number id) found

  folder_or_file : (id : ℕ) (row : NodeRow) (result : Result (List ℕ) Refusal) → is_missing profile.nodes id ≡ false → IsRowOf (numbered profile.nodes id) (path profile.nodes id) row
      → IfOk result (λ way. (row.state ≡ state.Folder) × (way ≡ row.item.path)) → IfErr result (λ refusal. (row.state ≢ state.Folder) × (refusal ≡ NotAFolder)) → FindsFolder profile id result
  folder_or_file id row (Ok way) there it ok err =
      let folder = it.folder ok.0 in
      record { there = there; no_file = folder.0; path_is = ok.1 ∙ folder.1 }
  folder_or_file id row (Err refusal) there it ok err =
      let file = it.file err.0 in
      rw err.1 (λ more. rw (there, file) refl)

  pub row_finds : (id : ℕ) (row : NodeRow) (result : Result (List ℕ) Refusal) → id ≢ 0 → Some row ≡ option_map row_of (node_at number id rows)
      → IfOk result (λ way. (row.state ≡ state.Folder) × (way ≡ row.item.path)) → IfErr result (λ refusal. (row.state ≢ state.Folder) × (refusal ≡ NotAFolder)) → FindsFolder profile id result
  unfolding is_missing
  row_finds zero row result below is ok err = absurd (below refl)
  row_finds (suc place) row result below is ok err =
      let it = row_said setting number profile (suc place) (slice_get profile.nodes place) row (is ∙ ap (option_map row_of) (node_is (suc place))) in
      folder_or_file (suc place) row result it.there it ok err

  pub no_row_finds : (id : ℕ) → id ≢ 0 → None ≡ option_map row_of (node_at number id rows) → FindsFolder profile id (Err NoSuchNode)
  unfolding is_missing
  no_row_finds zero below is = absurd (below refl)
  no_row_finds (suc place) below is =
      let missing = no_row_said setting number profile (suc place) (slice_get profile.nodes place) (is ∙ ap (option_map row_of) (node_is (suc place))) in
      λ more. rw missing refl

  -- the row is missing, or memory ran out
  pub nothing_finds : (id : ℕ) (refusal : Refusal) → id ≢ 0 → MatchBool (is_out_of_memory_of refusal) ⊤ ((refusal ≡ NoSuchNode) × (node_at number id rows ≡ None)) → FindsFolder profile id (Err refusal)
  nothing_finds id refusal below none = if_refused (is_out_of_memory_of refusal)
      (λ (it : (refusal ≡ NoSuchNode) × (node_at number id rows ≡ None)) more. no_row_finds id below (ap (option_map row_of) (sym it.1)) more ∙ ap Some (sym it.0)) none
