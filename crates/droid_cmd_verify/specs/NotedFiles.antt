-- Files that are noted as their folders are listed, and not read (this project's own).
use Rattle.std.specs.Prelude.{◌≡◌, ◌&&◌, Bool, true, false, not, List, [], ◌∷◌, ◌++◌, ℕ, IsPermutation, filter}
use Rattle.std.specs.Prelude.{if◌then◌else◌}
use Rattle.std.specs.List.{flat_map}
use Rattle.std.specs.Str.{is_utf8}
use Rattle.droid_frame.specs.declared.hash_value.HashValue.TheVariants as hashes
use Rattle.droid_frame.specs.declared.node_kind.NodeKind.TheVariants as nodes
use Rattle.droid_tree.specs.Observation.{Observation, Listed, Unlisted, Opened, Unopened, Read, Unread, Exchanged}
use Rattle.droid_tree.specs.Paths.{below}
use Rattle.droid_tree.specs.declared.folder_entry.EntryKind.{EntryKind}
use Rattle.droid_tree.specs.declared.folder_entry.EntryKind.TheVariants as kinds
use Rattle.droid_tree.specs.declared.folder_entry.FolderEntry.{FolderEntry}
use Rattle.droid_frame.specs.declared.item.Item.{Item}
use Rattle.droid_lists.specs.Nodes.{item_of}
use Rattle.droid_core_spec.specs.Conditions.{is_moment}
use Rattle.droid_cmd_verify.specs.declared.noted_files.NotedFiles.{NotedFiles}

-- whether an entry is a regular file
abbrev pub is_regular : EntryKind → Bool
is_regular kinds.Folder = false
is_regular kinds.File = true
is_regular kinds.Link = false
is_regular kinds.Other = false
is_regular kinds.TooLong = false

-- A regular file whose name is text and whose moment can be written. The walk skips any other file, and reports why.
abbrev pub is_noted : FolderEntry → Bool
is_noted entry = is_regular entry.kind && is_utf8 entry.name && is_moment entry.modified

-- its item: its bytes are not read, so that it has no hash
abbrev pub noted_item : List ℕ → FolderEntry → Item
noted_item path entry = item_of (below path entry.name) nodes.File entry.len entry.modified hashes.Nothing

-- the item of an entry, if it is noted
abbrev pub items_of_entry : List ℕ → FolderEntry → List Item
items_of_entry path entry = if is_noted entry then noted_item path entry ∷ [] else []

-- the items of these entries of the folder at this path
abbrev pub items_listed : List ℕ → List FolderEntry → List Item
items_listed path entries = flat_map (items_of_entry path) entries

-- whether an entry is left to the walk
abbrev pub is_left : FolderEntry → Bool
is_left entry = not (is_noted entry)

-- Of a listing, which may have been put in another order, the files were noted behind those that were noted before, and
-- all else was left.
abbrev pub NotesEntries : List ℕ → List FolderEntry → List Item → List Item → List FolderEntry → Type 0
NotesEntries path all before after left =
    (ordered : List FolderEntry) × IsPermutation all ordered × (left ≡ filter is_left ordered)
    × (after ≡ before ++ items_listed path ordered)

-- The whole tree returned the same, but that a listing has the files too that were noted.
abbrev pub NotesFiles : {T : Type 0} → (T → Observation → T → Type 0) → NotedFiles T → Observation → NotedFiles T
    → Type 0
NotesFiles observes old (Listed path entries) new =
    (all : List FolderEntry) × NotesEntries path all old.files.items new.files.items entries
    × observes old.tree (Listed path all) new.tree
NotesFiles observes old (Unlisted path) new =
    (new.files.items ≡ old.files.items) × observes old.tree (Unlisted path) new.tree
NotesFiles observes old (Opened path) new =
    (new.files.items ≡ old.files.items) × observes old.tree (Opened path) new.tree
NotesFiles observes old (Unopened path) new =
    (new.files.items ≡ old.files.items) × observes old.tree (Unopened path) new.tree
NotesFiles observes old (Read path entry from wanted bytes) new =
    (new.files.items ≡ old.files.items) × observes old.tree (Read path entry from wanted bytes) new.tree
NotesFiles observes old (Unread path entry from wanted) new =
    (new.files.items ≡ old.files.items) × observes old.tree (Unread path entry from wanted) new.tree
NotesFiles observes old (Exchanged path entry from wanted) new =
    (new.files.items ≡ old.files.items) × observes old.tree (Exchanged path entry from wanted) new.tree
