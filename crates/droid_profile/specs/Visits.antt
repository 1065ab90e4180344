-- The folders of a tree that is profiled, in the order in which they are visited (this project's own).
use Rattle.std.specs.Prelude.{◌≡◌, ℕ, ◌+◌, ◌==◌, ◌&&◌, Bool, List, [], ◌∷◌, ◌++◌, length, map, Option, Some, None}
use Rattle.std.specs.Prelude.{is_some}
use Rattle.std.specs.List.{flat_map, list_all, AllByRecursion}
use Rattle.droid_pronom.specs.Registry.{Contents}
use Rattle.droid_tree.specs.Heard.{Heard, Left}
use Rattle.droid_tree.specs.Listings.{AreInOrder, AreRepeated, AreThose, observed_of_folder}
use Rattle.droid_tree.specs.Observation.{Observation}
use Rattle.droid_tree.specs.Paths.{below}
use Rattle.droid_tree.specs.declared.folder_entry.FolderEntry.{FolderEntry}
use Rattle.droid_tree.specs.declared.pending_folder.PendingFolder.{PendingFolder}
use Rattle.droid_tree.specs.declared.skip_reason.Skipped.TheVariants as reasons
use Rattle.droid_profile.specs.Kids.{Kid, MayCome, entry_of, heard_of_kid, is_done, is_taken, numbers_in, reads_of_kid}
use Rattle.droid_profile.specs.Kids.{seen_of_kid, subfolders_of_kid}
use Rattle.droid_profile.specs.declared.options.Options.{Options}

-- a folder, the entries that the tree returned if it could be listed, those that have the name of another one, and what
-- came of each of the others
pub record Visit : Type 0 where
  pub folder : PendingFolder
  pub observed : Option (List FolderEntry)
  pub repeated : List FolderEntry
  pub kids : List Kid

-- the tree returned these entries, one of each name and in the order of the names, and these repeated ones; none if the
-- folder could not be listed
pub record AreListed (observed : Option (List FolderEntry)) (entries repeated : List FolderEntry) : Type 0 where
  pub same : AreThose observed entries repeated
  pub in_order : AreInOrder entries
  pub are_repeated : AreRepeated entries repeated

-- the first entries have outcomes, and the rest is still to come
pub record IsBegun (rest : List FolderEntry) (visit : Visit) : Type 0 where
  pub listed : AreListed visit.observed (map entry_of visit.kids ++ rest) visit.repeated
  pub kids : AllByRecursion (MayCome visit.folder.path) visit.kids

-- each entry has an outcome
abbrev pub IsVisit : Visit → Type 0
IsVisit visit = IsBegun [] visit

-- nothing more is to come of any entry
abbrev pub is_complete : Visit → Bool
is_complete visit = list_all is_done visit.kids

-- the folders that were found in it, in order
abbrev pub subfolders_of : Visit → List PendingFolder
subfolders_of visit = flat_map (subfolders_of_kid visit.folder.path) visit.kids

-- The folder that has waited longest is visited first, and its subfolders are put behind those that wait. These
-- folders still wait at the end.
abbrev pub InTurn : List PendingFolder → List Visit → List PendingFolder → Type 0
InTurn waiting [] left = left ≡ waiting
InTurn [] (visit ∷ visits) left = ⊥
InTurn (folder ∷ waiting) (visit ∷ visits) left =
    (visit.folder ≡ folder) × InTurn (waiting ++ subfolders_of visit) visits left

-- the numbers that its entries got, in order
abbrev pub numbers_of : Visit → List ℕ
numbers_of visit = flat_map numbers_in visit.kids

-- these numbers follow upon this one, each upon the one before it
abbrev pub Follow : ℕ → List ℕ → Type 0
Follow before [] = Unit {0}
Follow before (number ∷ numbers) = (number ≡ before + 1) × Follow number numbers

-- ---- what the tree returned

-- the folder is listed, and then each of its subfolders is opened
abbrev pub folder_calls_of : Visit → List Observation
folder_calls_of visit =
    observed_of_folder visit.folder.path visit.observed ∷ flat_map (seen_of_kid visit.folder.path) visit.kids

-- the reads of the file with this number, if it lies in this folder
abbrev pub reads_of_visit : ℕ → Visit → List Observation
reads_of_visit number visit = flat_map (reads_of_kid number visit.folder.path) visit.kids

-- ---- what the watcher learned

-- that a folder could not be listed
abbrev pub heard_of_listing : List ℕ → Option (List FolderEntry) → List Heard
heard_of_listing path None = Left path reasons.Unreadable ∷ []
heard_of_listing path (Some observed) = []

-- that an entry has the name of another one
abbrev pub heard_of_repeated : List ℕ → List FolderEntry → List Heard
heard_of_repeated path repeated = map (λ (entry : FolderEntry). Left (below path entry.name) reasons.SameName) repeated

-- what the watcher learns of a folder: whether it could be listed, the repeated names, and then each entry
abbrev pub heard_of_visit : Contents → Options → Visit → List Heard
heard_of_visit registry options visit =
    heard_of_listing visit.folder.path visit.observed
    ++ (heard_of_repeated visit.folder.path visit.repeated
    ++ flat_map (heard_of_kid registry options visit.folder.path) visit.kids)

-- ---- whether the profile has all of it

-- the folder was listed, no name is repeated, and each entry is in the profile, symbolic links aside
abbrev pub is_whole_visit : Visit → Bool
is_whole_visit visit = is_some visit.observed && ((length visit.repeated == 0) && list_all is_taken visit.kids)
