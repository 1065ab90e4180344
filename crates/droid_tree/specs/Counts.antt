-- How much there is in a tree (this project's own).
use Rattle.std.specs.Prelude.{◌≡◌, ◌⊎◌, ℕ, ◌+◌, ◌<◌, Bool, true, false, List, [], ◌∷◌, ◌++◌, length, map, sum_by}
use Rattle.std.specs.Prelude.{Option, Some, None, IsUtf8}
use Rattle.std.specs.List.{flat_map, count_by, AllByRecursion}
use Rattle.droid_tree.specs.Observation.{Observation, GoesOver}
use Rattle.droid_tree.specs.Listings.{AreInOrder, AreRepeated, AreThose, observed_of_folder}
use Rattle.droid_tree.specs.Kinds.{IsNoNode}
use Rattle.droid_tree.specs.Paths.{below}
use Rattle.droid_tree.specs.declared.tree_size.Counted.{Counted}
use Rattle.droid_tree.specs.declared.folder_entry.FolderEntry.{FolderEntry}
use Rattle.droid_tree.specs.declared.folder_entry.EntryKind.TheVariants as kinds
use Rattle.droid_tree.specs.declared.pending_folder.PendingFolder.{PendingFolder}

-- what an entry counts as: a folder, a file, or skipped
pub data Item : Type 0 where
  AFolder : (entry : FolderEntry) → Item
  AFile : (entry : FolderEntry) → Item
  NoNode : (entry : FolderEntry) → Item

-- the entry, whatever it counts as
abbrev pub entry_in : Item → FolderEntry
entry_in (AFolder entry) = entry
entry_in (AFile entry) = entry
entry_in (NoNode entry) = entry

-- an entry is skipped if its name is not UTF-8 or if it is neither a folder nor a file
abbrev pub IsItem : Item → Type 0
IsItem (AFolder entry) = IsUtf8 entry.name × (entry.kind ≡ kinds.Folder)
IsItem (AFile entry) = IsUtf8 entry.name × (entry.kind ≡ kinds.File)
IsItem (NoNode entry) = (¬ (IsUtf8 entry.name)) ⊎ IsNoNode entry.kind

-- it counts as a folder
abbrev pub is_folder : Item → Bool
is_folder (AFolder entry) = true
is_folder _ = false

-- it counts as a file
abbrev pub is_file : Item → Bool
is_file (AFile entry) = true
is_file _ = false

-- it is skipped
abbrev pub is_no_node : Item → Bool
is_no_node (NoNode entry) = true
is_no_node _ = false

-- a file counts with its length, any other entry with 0
abbrev pub bytes_in : Item → ℕ
bytes_in (AFile entry) = entry.len
bytes_in _ = 0

-- the path of an entry of this folder, if the entry is a folder
abbrev pub path_of_item : List ℕ → Item → List (List ℕ)
path_of_item path (AFolder entry) = below path entry.name ∷ []
path_of_item path _ = []

-- a folder's path, the entries that the tree returned if the folder is readable, what each of them counts as, and those
-- that have the name of another one
pub record CountedFolder : Type 0 where
  pub path : List ℕ
  pub observed : Option (List FolderEntry)
  pub items : List Item
  pub repeated : List FolderEntry

-- the entries are those that the tree returned, sorted by name
pub record IsCounted (folder : CountedFolder) : Type 0 where
  pub same : AreThose folder.observed (map entry_in folder.items) folder.repeated
  pub in_order : AreInOrder (map entry_in folder.items)
  pub are_repeated : AreRepeated (map entry_in folder.items) folder.repeated
  pub items : AllByRecursion IsItem folder.items

-- the tree returned no entries
abbrev pub is_unread_by : Option (List FolderEntry) → Bool
is_unread_by None = true
is_unread_by (Some observed) = false

-- the folder was unreadable
abbrev pub is_unread : CountedFolder → Bool
is_unread folder = is_unread_by folder.observed

-- what the tree returned of the folder
abbrev pub observed_of_counted : CountedFolder → Observation
observed_of_counted folder = observed_of_folder folder.path folder.observed

-- the paths of the folders in it, in order
abbrev pub folders_in : CountedFolder → List (List ℕ)
folders_in folder = flat_map (path_of_item folder.path) folder.items

-- the entries of all folders, in order
abbrev pub items_in : List CountedFolder → List Item
items_in folders = flat_map (λ folder. folder.items) folders

-- how many entries of these folders have the name of another one
abbrev pub repeated_in : List CountedFolder → ℕ
repeated_in folders = sum_by (λ folder. length folder.repeated) folders

-- The top was listed, and then each folder that was found, once, in the order of a walk. The numbers are those of what
-- was listed: folders, files, their bytes, skipped entries, and unreadable folders.
pub record CountsTree {T : Type 0} (observes : T → Observation → T → Type 0) (counted : Counted) (tree tree_after : T)
    : Type 0 where
  pub listings : List CountedFolder
  pub are : AllByRecursion IsCounted listings
  pub observed : GoesOver observes tree (map observed_of_counted listings) tree_after
  pub each_folder : map (λ listing. listing.path) listings ≡ [] ∷ flat_map folders_in listings
  pub folders : counted.folders ≡ count_by is_folder (items_in listings)
  pub files : counted.files ≡ count_by is_file (items_in listings)
  pub bytes : counted.bytes ≡ sum_by bytes_in (items_in listings)
  pub skipped : counted.skipped
      ≡ count_by is_no_node (items_in listings) + (repeated_in listings + count_by is_unread listings)

-- Folders were listed, the top first, each once, in the order of a walk, but not yet all that were found. What was
-- listed has more folders and files than the limit.
pub record CountsTooMany {T : Type 0} (observes : T → Observation → T → Type 0) (limit : ℕ) (tree tree_after : T)
    : Type 0 where
  pub listings : List CountedFolder
  pub are : AllByRecursion IsCounted listings
  pub observed : GoesOver observes tree (map observed_of_counted listings) tree_after
  pub unlisted : List (List ℕ)
  pub each_folder : map (λ listing. listing.path) listings ++ unlisted ≡ [] ∷ flat_map folders_in listings
  pub too_many : limit < count_by is_folder (items_in listings) + count_by is_file (items_in listings)

-- ---- on the way

-- the paths of folders that wait to be visited
abbrev pub paths_of : List PendingFolder → List (List ℕ)
paths_of places = map (λ folder. folder.path) places

-- these items add this much to the counts
pub record Adds (items : List Item) (before after : Counted) : Type 0 where
  pub folders : after.folders ≡ before.folders + count_by is_folder items
  pub files : after.files ≡ before.files + count_by is_file items
  pub bytes : after.bytes ≡ before.bytes + sum_by bytes_in items
  pub skipped : after.skipped ≡ before.skipped + count_by is_no_node items

-- the entry counts as one item; if it is a folder, its path waits to be visited
pub record CountsItem (path : List ℕ) (entry : FolderEntry) (before after : Counted)
    (waiting waiting_after : List PendingFolder) : Type 0 where
  pub item : Item
  pub its : entry_in item ≡ entry
  pub is_item : IsItem item
  pub adds : Adds (item ∷ []) before after
  pub pending : paths_of waiting_after ≡ paths_of waiting ++ path_of_item path item

-- the same of several entries of a folder, in order
pub record CountsItems (path : List ℕ) (entries : List FolderEntry) (before after : Counted)
    (waiting waiting_after : List PendingFolder) : Type 0 where
  pub items : List Item
  pub its : map entry_in items ≡ entries
  pub are_items : AllByRecursion IsItem items
  pub adds : Adds items before after
  pub pending : paths_of waiting_after ≡ paths_of waiting ++ flat_map (path_of_item path) items

-- the folder was listed, or could not be: what is in it adds this much to the counts, and the paths of its subfolders
-- wait to be visited
pub record CountsFolder {T : Type 0} (observes : T → Observation → T → Type 0) (path : List ℕ) (before after : Counted)
    (tree tree_after : T) (waiting waiting_after : List PendingFolder) : Type 0 where
  pub listing : CountedFolder
  pub its : listing.path ≡ path
  pub is_listing : IsCounted listing
  pub observed : observes tree (observed_of_counted listing) tree_after
  pub folders : after.folders ≡ before.folders + count_by is_folder listing.items
  pub files : after.files ≡ before.files + count_by is_file listing.items
  pub bytes : after.bytes ≡ before.bytes + sum_by bytes_in listing.items
  pub skipped : after.skipped
      ≡ before.skipped
      + (count_by is_no_node listing.items + (length listing.repeated + count_by is_unread (listing ∷ [])))
  pub pending : paths_of waiting_after ≡ paths_of waiting ++ folders_in listing
