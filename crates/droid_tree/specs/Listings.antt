-- What a folder lists, sorted by name (this project's own).
use Rattle.std.specs.Prelude.{◌≡◌, ℕ, ◌+◌, ◌++◌, List, [], map, Option, Some, None, IsPermutation, IsSortedByKey}
use Rattle.std.specs.List.{slice_get, All, Contains}
use Rattle.std.specs.Ordering.{nat_cmp}
use Rattle.std.specs.Cmp.Lexicographic.{slice_cmp}
use Rattle.droid_tree.specs.Observation.{Observation, Listed, Unlisted}
use Rattle.droid_tree.specs.Order.{IsBefore}
use Rattle.droid_tree.specs.declared.folder_entry.FolderEntry.{FolderEntry}

-- the names are in the order of their bytes, and no two are equal
abbrev pub AreInOrder : List FolderEntry → Type 0
AreInOrder entries =
    (k : ℕ) (first second : FolderEntry) → slice_get entries k ≡ Some first → slice_get entries (k + 1) ≡ Some second
    → IsBefore first.name second.name

-- the name of this entry is the name of one of these
abbrev pub HasNameOf : List FolderEntry → FolderEntry → Type 0
HasNameOf entries entry = Contains (map (λ (first : FolderEntry). first.name) entries) entry.name

-- each of these has the name of one of the entries
abbrev pub AreRepeated : List FolderEntry → List FolderEntry → Type 0
AreRepeated entries repeated = All (HasNameOf entries) repeated

-- the entries and the repeated ones are those that the tree returned; none if the folder is unreadable
abbrev pub AreThose : Option (List FolderEntry) → List FolderEntry → List FolderEntry → Type 0
AreThose None entries repeated = (entries ≡ []) × (repeated ≡ [])
AreThose (Some observed) entries repeated = IsPermutation observed (entries ++ repeated)

-- what the tree returned of a folder: its entries, or that it is unreadable
abbrev pub observed_of_folder : List ℕ → Option (List FolderEntry) → Observation
observed_of_folder path None = Unlisted path
observed_of_folder path (Some observed) = Listed path observed

-- the tree returned the entries of a folder, which are sorted by name: one of each name, and the repeated ones
pub record ListsInOrder {T : Type 0} (observes : T → Observation → T → Type 0) (path : List ℕ)
    (entries repeated : List FolderEntry) (tree tree_after : T) : Type 0 where
  pub listed : List FolderEntry
  pub observed : observes tree (Listed path listed) tree_after
  pub same : IsPermutation listed (entries ++ repeated)
  pub in_order : AreInOrder entries
  pub are_repeated : AreRepeated entries repeated

-- ---- on the way

-- all these entries: one of each name, in order, and the repeated ones
pub record Splits (all entries repeated : List FolderEntry) : Type 0 where
  pub same : IsPermutation all (entries ++ repeated)
  pub in_order : AreInOrder entries
  pub are_repeated : AreRepeated entries repeated

-- no name comes before the one before it
abbrev pub AreSorted : List FolderEntry → Type 0
AreSorted entries = IsSortedByKey (λ (entry : FolderEntry). entry.name) (slice_cmp nat_cmp) entries

-- the name of this entry comes before none of these
abbrev pub IsBeforeNone : List FolderEntry → FolderEntry → Type 0
IsBeforeNone entries entry = All (λ (first : FolderEntry). ¬ (IsBefore entry.name first.name)) entries
