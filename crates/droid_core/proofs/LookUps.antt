-- What the look-ups find in rows that stand for a world: what the world has.
use Rattle.std.proofs.Common.{◌≡◌, inl, inr, ℕ, zero, suc, ◌+◌, ◌<◌, ◌==◌, List, [], ◌∷◌, ◌++◌, map, find, filter, Bool, cond, true, false, not, ◌&&◌, ◌||◌, Option, Some, None, option_map, is_some, slice_get, bytes_eq, refl, ap, ◌∙◌, arith}
use Rattle.std.proofs.lemmas.Bool.{cases_Bool, eq-eqb, ne_eqb}
use Rattle.std.proofs.lemmas.List.{map-append}
use Rattle.std.proofs.lemmas.List.Elements.{filter-append}
use Rattle.std.proofs.lemmas.List.Folds.{find-append, list_any-append}
use Rattle.std.proofs.lemmas.Option.{slice_get-map}
use Rattle.std.specs.List.{list_any}
use Rattle.std.specs.Option.{option_or}
use Rattle.droid_frame.specs.Hashes.{IsHashValue, hash, hash_bytes}
use Rattle.droid_frame.specs.declared.hash_kind.HashKind.{HashKind}
use Rattle.droid_frame.specs.declared.hash_value.HashValue.{HashValue}
use Rattle.droid_frame.specs.declared.hash_value.HashValue.TheVariants as hashes
use Rattle.droid_assembly.proofs.Digests.{is_hash_value}
use Rattle.droid_core_spec.specs.Files.{bytes_of}
use Rattle.droid_core_spec.specs.Histories.{History, kept}
use Rattle.droid_core_spec.specs.Records as shown
use Rattle.droid_core_spec.specs.Records.{option_list}
use Rattle.droid_core_spec.specs.Setting.{Setting}
use Rattle.droid_core_spec.specs.World.{Node, Folder, File, Abandoned, Profile, World, numbered, is_called, is_taken}
use Rattle.droid_store.specs.Rows as stores
use Rattle.droid_store.specs.Rows.{Rows, profile_at, node_at, is_node, child_at, is_child, reply_for, is_for, records_of, hash_of, is_listed, is_unfinished, record_of}
use Rattle.droid_core.specs.Replies.{entry_row, KeepsReplies}
use Rattle.droid_core.specs.Rows.{profile_row, node_row, node_rows_from, node_rows, rows_in, KeepsProfiles, KeepsNodes, stored_in, stored}
use Rattle.droid_core.proofs.Lists.{find_both, filter_both, some_found, find_mapped}

pub profile_found : (world : World) (rows : Rows) (number : ℕ) → KeepsProfiles world rows → profile_at number rows ≡ option_map profile_row (numbered world.profiles number)
profile_found world rows zero keeps = refl
profile_found world rows (suc place) keeps = ap (λ ps. slice_get ps place) keeps ∙ slice_get-map profile_row world.profiles place

pub reply_found : (history : History) (rows : Rows) (client number : ℕ) → KeepsReplies history rows → reply_for client number rows ≡ option_map entry_row (kept history client number)
reply_found history rows client number keeps = ap (find (is_for client number)) keeps.replies ∙ find_mapped entry_row (is_for client number) history

-- ---- a node by its number

abbrev has_id : ℕ → stores.Node → Bool
has_id id node = node.id == id

first_or : {X : Type 0} (o : Option X) → option_or o None ≡ o
first_or None = refl
first_or (Some x) = refl

same_kept : {X : Type 0} (b : Bool) → ◌≡◌ {A = Option X} None (cond b None None)
same_kept true = refl
same_kept false = refl

-- the row of a node has the node's number
found_in_row : (setting : Setting) (number : ℕ) (profile : Profile) (id wanted : ℕ) (node : Node)
    → find (has_id wanted) (option_list (node_row setting number profile id node)) ≡ cond (id == wanted) (node_row setting number profile id node) None
found_in_row setting number profile id wanted (Folder parent modified name) = refl
found_in_row setting number profile id wanted (File parent modified name content) = elim (cases_Bool content.finished) [
  | inl is ↦ rw is refl
  | inr isnt ↦ rw isnt refl
]
found_in_row setting number profile id wanted Abandoned = same_kept (id == wanted)

module _ (setting : Setting) (number : ℕ) (profile : Profile) where
  split_first : (wanted first : ℕ) (node : Node) (nodes : List Node) → find (has_id wanted) (node_rows_from setting number profile first (node ∷ nodes))
      ≡ option_or (cond (first == wanted) (node_row setting number profile first node) None) (find (has_id wanted) (node_rows_from setting number profile (first + 1) nodes))
  split_first wanted first node nodes =
      find-append (has_id wanted) (option_list (node_row setting number profile first node)) (node_rows_from setting number profile (first + 1) nodes)
      ∙ ap (λ found. option_or found (find (has_id wanted) (node_rows_from setting number profile (first + 1) nodes))) (found_in_row setting number profile first wanted node)

  none_below : (wanted first : ℕ) (nodes : List Node) → wanted < first → find (has_id wanted) (node_rows_from setting number profile first nodes) ≡ None
  none_below wanted first [] below = refl
  none_below wanted first (node ∷ nodes) below =
      split_first wanted first node nodes
      ∙ rw (ne_eqb first wanted (λ same. omega (arith, same, below))) (none_below wanted (first + 1) nodes (omega (arith, below)))

  found_from : (wanted first place : ℕ) (nodes : List Node) → wanted ≡ first + place
      → find (has_id wanted) (node_rows_from setting number profile first nodes) ≡ stored_in setting number profile wanted (slice_get nodes place)
  found_from wanted first place [] is = refl
  found_from wanted first zero (node ∷ nodes) is =
      let same : first ≡ wanted = omega (arith, is) in
      split_first wanted first node nodes
      ∙ rw (eq-eqb first wanted same, none_below wanted (first + 1) nodes (omega (arith, same)))
      (first_or (node_row setting number profile first node) ∙ ap (λ id. node_row setting number profile id node) same)
  found_from wanted first (suc place) (node ∷ nodes) is =
      split_first wanted first node nodes
      ∙ rw (ne_eqb first wanted (λ same. omega (arith, same, is))) (found_from wanted (first + 1) place nodes (omega (arith, is)))

  found_by_number : (id : ℕ) → find (has_id id) (node_rows_from setting number profile 1 profile.nodes) ≡ stored_in setting number profile id (numbered profile.nodes id)
  found_by_number zero = none_below zero 1 profile.nodes (omega arith)
  found_by_number (suc place) = found_from (suc place) 1 place profile.nodes (omega arith)

found_in_profile : (setting : Setting) (number id : ℕ) (profile : Option Profile) → find (has_id id) (node_rows setting number profile) ≡ stored setting number id profile
found_in_profile setting number id None = refl
found_in_profile setting number id (Some profile) = found_by_number setting number profile id

pub node_found : (setting : Setting) (world : World) (rows : Rows) (number id : ℕ) → KeepsNodes setting world rows → node_at number id rows ≡ stored setting number id (numbered world.profiles number)
node_found setting world rows number id keeps =
    find_both (λ node. node.profile == number) (has_id id) rows.nodes
    ∙ ap (find (has_id id)) (keeps number)
    ∙ found_in_profile setting number id (numbered world.profiles number)

-- ---- a node by where it lies

abbrev lies_there : ℕ → List ℕ → stores.Node → Bool
lies_there parent name node = (node.parent == parent) && bytes_eq node.name name

or_false : (b : Bool) → (b || false) ≡ b
or_false true = refl
or_false false = refl

lies_as_node : (setting : Setting) (number : ℕ) (profile : Profile) (id parent : ℕ) (name : List ℕ) (node : Node)
    → list_any (lies_there parent name) (option_list (node_row setting number profile id node)) ≡ is_called parent name node
lies_as_node setting number profile id parent name (Folder its_parent modified its_name) = or_false ((its_parent == parent) && bytes_eq its_name name)
lies_as_node setting number profile id parent name (File its_parent modified its_name content) = elim (cases_Bool content.finished) [
  | inl is ↦ rw is (or_false ((its_parent == parent) && bytes_eq its_name name))
  | inr isnt ↦ rw isnt (or_false ((its_parent == parent) && bytes_eq its_name name))
]
lies_as_node setting number profile id parent name Abandoned = refl

lie_as_nodes : (setting : Setting) (number : ℕ) (profile : Profile) (parent : ℕ) (name : List ℕ) (first : ℕ) (nodes : List Node)
    → list_any (lies_there parent name) (node_rows_from setting number profile first nodes) ≡ list_any (is_called parent name) nodes
lie_as_nodes setting number profile parent name first [] = refl
lie_as_nodes setting number profile parent name first (node ∷ nodes) =
    list_any-append (lies_there parent name) (option_list (node_row setting number profile first node)) (node_rows_from setting number profile (first + 1) nodes)
    ∙ ap (λ here. here || list_any (lies_there parent name) (node_rows_from setting number profile (first + 1) nodes)) (lies_as_node setting number profile first parent name node)
    ∙ ap (λ later. is_called parent name node || later) (lie_as_nodes setting number profile parent name (first + 1) nodes)

pub child_found : (setting : Setting) (world : World) (rows : Rows) (number parent : ℕ) (name : List ℕ) (profile : Profile) → KeepsNodes setting world rows → numbered world.profiles number ≡ Some profile
    → is_some (child_at number parent name rows) ≡ is_taken profile.nodes parent name
unfolding is_taken
child_found setting world rows number parent name profile keeps is =
    ap is_some (find_both (λ node. node.profile == number) (lies_there parent name) rows.nodes)
    ∙ some_found (lies_there parent name) (rows_in number rows)
    ∙ ap (list_any (lies_there parent name)) (keeps number ∙ ap (node_rows setting number) is)
    ∙ lie_as_nodes setting number profile parent name 1 profile.nodes

-- ---- the records of a profile

-- the hash that is read of a value's bytes is the value
read_again : (value : HashValue) → IsHashValue value → hash_of (hash_bytes value) ≡ value
read_again hashes.Nothing is = refl
read_again (hashes.Md5 digest) is = rw is.0 refl
read_again (hashes.Sha256 digest) is = rw is.0 refl

kept_hash : (kind : HashKind) (bytes : List ℕ) → hash_of (hash_bytes (hash kind bytes)) ≡ hash kind bytes
kept_hash kind bytes = read_again (hash kind bytes) (is_hash_value kind bytes)

abbrev is_shown : stores.Node → Bool
is_shown node = not (is_unfinished node.state)

shown_as_node : (setting : Setting) (number : ℕ) (profile : Profile) (id : ℕ) (node : Node)
    → map record_of (filter is_shown (option_list (node_row setting number profile id node))) ≡ option_list (shown.record_of setting profile id node)
shown_as_node setting number profile id (Folder parent modified name) = refl
shown_as_node setting number profile id (File parent modified name content) = elim (cases_Bool content.finished) [
  | inl is ↦ rw (is, kept_hash profile.hash (bytes_of content)) refl
  | inr isnt ↦ rw isnt refl
]
shown_as_node setting number profile id Abandoned = refl

shown_as_nodes : (setting : Setting) (number : ℕ) (profile : Profile) (first : ℕ) (nodes : List Node)
    → map record_of (filter is_shown (node_rows_from setting number profile first nodes)) ≡ shown.records_from setting profile first nodes
shown_as_nodes setting number profile first [] = refl
shown_as_nodes setting number profile first (node ∷ nodes) =
    let here = option_list (node_row setting number profile first node) in
    let later = node_rows_from setting number profile (first + 1) nodes in
    ap (map record_of) (filter-append is_shown here later)
    ∙ map-append record_of (filter is_shown here) (filter is_shown later)
    ∙ ap (λ records. records ++ map record_of (filter is_shown later)) (shown_as_node setting number profile first node)
    ∙ ap (λ records. option_list (shown.record_of setting profile first node) ++ records) (shown_as_nodes setting number profile (first + 1) nodes)

pub records_found : (setting : Setting) (world : World) (rows : Rows) (number : ℕ) (profile : Profile) → KeepsNodes setting world rows → numbered world.profiles number ≡ Some profile
    → records_of number rows ≡ shown.records setting profile
records_found setting world rows number profile keeps is =
    ap (map record_of) (filter_both (λ node. node.profile == number) is_shown rows.nodes ∙ ap (filter is_shown) (keeps number ∙ ap (node_rows setting number) is))
    ∙ shown_as_nodes setting number profile 1 profile.nodes
