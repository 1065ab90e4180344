-- What the look-up of a file finds in rows that stand for a world.
use Rattle.std.proofs.Common.{◌≡◌, inl, inr, ℕ, List, Option, Some, None, option_map, refl, sym, ap, ◌∙◌}
use Rattle.std.proofs.lemmas.Bool.{cases_Bool}
use Rattle.std.proofs.lemmas.Result.{IfOk-at_ok}
use Rattle.std.specs.Prelude.{ℤ, MatchBool, ⊤, Result, Ok, Err, IfOk}
use Rattle.droid_frame.specs.declared.refusal.Refusal.{Refusal}
use Rattle.droid_frame.specs.declared.refusal.Refusal.TheVariants.{NoSuchNode, NotAFile}
use Rattle.droid_core_spec.specs.Judging.{Verdict, Refuses, in_file}
use Rattle.droid_core_spec.specs.Setting.{Setting}
use Rattle.droid_core_spec.specs.MemoryFaults.{is_out_of_memory_of}
use Rattle.droid_core_spec.specs.World.{Content, Node, File, Abandoned, Profile, World, numbered, unless_abandoned, path}
use Rattle.droid_core_spec.specs.World as nodes
use Rattle.droid_core.specs.Rows.{KeepsWorld, file_row, profile_row, stored, stored_in}
use Rattle.droid_core.proofs.LookUps.{node_found}
use Rattle.droid_store.specs.declared.fault.StoreFault.{StoreFault}
use Rattle.droid_store.specs.declared.rows.NodeRow.{NodeRow}
use Rattle.droid_store.specs.Changes.{new_file}
use Rattle.droid_store.specs.declared.rows.NodeState.TheVariants.{Folder, Unfinished}
use Rattle.droid_store.specs.declared.rows.ProfileRow.{ProfileRow}
use Rattle.droid_store.specs.Rows as rows
use Rattle.droid_store.specs.Rows.{Rows, node_at, row_of}
use Rattle.droid_core.specs.declared.file_rows.FileRow.{FileRow}
use Rattle.droid_core.specs.LookUps.{HasProfile, FindsProfile}
use Rattle.droid_core.specs.FileLookUps.{HasFile, FindsFile, state_of}
use Rattle.droid_core.proofs.Staying.{if_refused}

-- the profile's refusal is that of what is asked of its file
pub nowhere_found : (world : World) (number id : ℕ) (refusal : Refusal) → FindsProfile world number (Err refusal) → FindsFile world number id (Err refusal)
nowhere_found world number id refusal found = if_refused (is_out_of_memory_of refusal) (λ it judge_there. rw it.1 (ap Refuses (sym it.0))) found

some_same : {X : Type 0} {x y : X} → Some x ≡ Some y → x ≡ y
some_same is = cc

-- ---- what the store answered

of_no_row : (node : Option rows.Node) → None ≡ option_map row_of node → node ≡ None
of_no_row None is = refl
of_no_row (Some node) is = absurd cc

module _ (number id : ℕ) (store : Rows) where
  pub no_node_there : (found : Result (Option NodeRow) StoreFault) (refusal : Refusal) → IfOk found (λ row. row ≡ option_map row_of (node_at number id store))
      → MatchBool (is_out_of_memory_of refusal) ⊤ ((refusal ≡ NoSuchNode) × (found ≡ Ok None)) → MatchBool (is_out_of_memory_of refusal) ⊤ ((refusal ≡ NoSuchNode) × (node_at number id store ≡ None))
  no_node_there found refusal answered none = if_refused (is_out_of_memory_of refusal)
      (λ (it : (refusal ≡ NoSuchNode) × (found ≡ Ok None)). (it.0, of_no_row (node_at number id store) (IfOk-at_ok (λ (row : Option NodeRow). row ≡ option_map row_of (node_at number id store)) it.1 answered))) none

  pub node_there : (found : Result (Option NodeRow) StoreFault) (row : NodeRow) → IfOk found (λ row. row ≡ option_map row_of (node_at number id store)) → found ≡ Ok (Some row)
      → option_map row_of (node_at number id store) ≡ Some row
  node_there found row answered is = sym (IfOk-at_ok (λ (row : Option NodeRow). row ≡ option_map row_of (node_at number id store)) is answered)

module _ (setting : Setting) (number : ℕ) (profile : Profile) (id : ℕ) where
  no_row : (node : Option Node) (judge_there : ℕ → ℤ → List ℕ → Content → Verdict) → stored_in setting number profile id node ≡ None → in_file (unless_abandoned node) judge_there ≡ Refuses NoSuchNode
  no_row None judge_there none = refl
  no_row (Some (nodes.Folder parent modified name)) judge_there none = absurd cc
  no_row (Some (File parent modified name content)) judge_there none = absurd cc
  no_row (Some Abandoned) judge_there none = refl

  folder_row : (node : Option Node) (row : NodeRow) (judge_there : ℕ → ℤ → List ℕ → Content → Verdict) → option_map row_of (stored_in setting number profile id node) ≡ Some row → row.state ≡ Folder
      → in_file (unless_abandoned node) judge_there ≡ Refuses NotAFile
  folder_row None row judge_there is folder = absurd cc
  folder_row (Some (nodes.Folder parent modified name)) row judge_there is folder = refl
  folder_row (Some (File parent modified name content)) row judge_there is folder = elim (cases_Bool content.finished) [
    | inl yes_it ↦ absurd (let it = rw yes_it at is in cc)
    | inr not_it ↦ absurd (let it = rw not_it at is in cc)
  ]
  folder_row (Some Abandoned) row judge_there is folder = absurd cc

  -- what is shown of a file's row, finished or not
  state_shown : (name : List ℕ) (content : Content) (plain : rows.Node) → plain.state ≡ Unfinished → (row_of (file_row setting profile name content plain)).state ≡ state_of content
  state_shown name content plain unfinished = elim (cases_Bool content.finished) [
    | inl is ↦ rw is refl
    | inr isnt ↦ rw isnt unfinished
  ]

  file_shown : (name : List ℕ) (content : Content) (plain : rows.Node) → let row = row_of (file_row setting profile name content plain) in
      (row.item.name ≡ plain.name) × (row.item.size ≡ plain.size) × (row.piece_size ≡ plain.piece_size)
  file_shown name content plain = elim (cases_Bool content.finished) [
    | inl is ↦ rw is (refl, refl, refl)
    | inr isnt ↦ rw isnt (refl, refl, refl)
  ]

  file_row_there : (world : World) (there : numbered world.profiles number ≡ Some profile) (row : FileRow) (of_profile : row.profile ≡ profile_row profile) (node : Option Node) → numbered profile.nodes id ≡ node
      → option_map row_of (stored_in setting number profile id node) ≡ Some row.node → (row.node.state ≡ Folder → ⊥) → HasFile world number id row
  file_row_there world there row of_profile None at_id is plain = absurd cc
  file_row_there world there row of_profile (Some (nodes.Folder parent modified name)) at_id is plain = absurd (plain cc)
  file_row_there world there row of_profile (Some (File parent modified name content)) at_id is plain =
      let shown = new_file number id parent modified content.size content.piece_size name (path profile.nodes id) in
      let same : row.node ≡ row_of (file_row setting profile name content shown) = sym (some_same is) in
      record {
        profile = profile;
        parent = parent;
        modified = modified;
        name = name;
        content = content;
        there = there;
        at = ap unless_abandoned at_id;
        profile_is = of_profile;
        state_is = ap (λ (n : NodeRow). n.state) same ∙ state_shown name content shown refl;
        name_is = ap (λ (n : NodeRow). n.item.name) same ∙ (file_shown name content shown).0;
        size_is = ap (λ (n : NodeRow). n.item.size) same ∙ (file_shown name content shown).1;
        piece_size_is = ap (λ (n : NodeRow). n.piece_size) same ∙ (file_shown name content shown).2;
      }
  file_row_there world there row of_profile (Some Abandoned) at_id is plain = absurd cc

module _ (setting : Setting) (world : World) (store : Rows) (number id : ℕ) (row : ProfileRow) (keeps : KeepsWorld setting world store) (has : HasProfile world number row) where
  stored_there : node_at number id store ≡ stored_in setting number has.profile id (numbered has.profile.nodes id)
  stored_there = node_found setting world store number id keeps.nodes ∙ ap (stored setting number id) has.there

  pub no_node_found : (refusal : Refusal) → MatchBool (is_out_of_memory_of refusal) ⊤ ((refusal ≡ NoSuchNode) × (node_at number id store ≡ None)) → FindsFile world number id (Err refusal)
  no_node_found refusal found = if_refused (is_out_of_memory_of refusal)
      (λ it judge_there. rw has.there (no_row setting number has.profile id (numbered has.profile.nodes id) (judge_there has.profile) (sym stored_there ∙ it.1) ∙ ap Refuses (sym it.0))) found

  pub folder_found : (node : NodeRow) → option_map row_of (node_at number id store) ≡ Some node → node.state ≡ Folder → FindsFile world number id (Err NotAFile)
  folder_found node is folder = λ judge_there. rw has.there
      (folder_row setting number has.profile id (numbered has.profile.nodes id) node (judge_there has.profile) (ap (option_map row_of) (sym stored_there) ∙ is) folder)

  pub file_found : (node : NodeRow) → option_map row_of (node_at number id store) ≡ Some node → (node.state ≡ Folder → ⊥) → HasFile world number id (record { profile = row; node = node })
  file_found node is plain =
      file_row_there setting number has.profile id world has.there (record { profile = row; node = node }) has.row_is (numbered has.profile.nodes id) refl (ap (option_map row_of) (sym stored_there) ∙ is) plain
