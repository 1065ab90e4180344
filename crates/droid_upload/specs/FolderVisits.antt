-- What is done in one folder of a tree that is submitted (this project's own).
use Rattle.std.specs.Prelude.{ℕ, ◌==◌, ◌&&◌, Bool, List, [], ◌∷◌, ◌++◌, length, map, Option, Some, None, is_some}
use Rattle.std.specs.List.{flat_map, list_all, AllByRecursion}
use Rattle.droid_tree.specs.Heard.{Left}
use Rattle.droid_tree.specs.Listings.{AreInOrder, AreRepeated, AreThose}
use Rattle.droid_tree.specs.Observation.{Listed, Unlisted}
use Rattle.droid_tree.specs.Paths.{below}
use Rattle.droid_tree.specs.declared.folder_entry.FolderEntry.{FolderEntry}
use Rattle.droid_tree.specs.declared.pending_folder.PendingFolder.{PendingFolder}
use Rattle.droid_tree.specs.declared.skip_reason.Skipped.TheVariants as reasons
use Rattle.droid_upload.specs.Kids.{Kid, MayCome, deeds_of_kid, entry_of, is_taken, nodes_of_kid, subfolders_of_kid}
use Rattle.droid_upload.specs.declared.node.Node.{Node}
use Rattle.droid_upload.specs.Deeds.{Deed, Observed, Informed}
use Rattle.droid_upload.specs.declared.upload.Destination.{Destination}

-- a folder, the entries that the tree returned if it is readable, those that have the name of another one, and what
-- came of each of the others
pub record Visit : Type 0 where
  pub folder : PendingFolder
  pub observed : Option (List FolderEntry)
  pub repeated : List FolderEntry
  pub kids : List Kid

-- the tree returned these entries, one of each name and in the order of the names, and these repeated ones; none if the
-- folder is unreadable
pub record AreListed (observed : Option (List FolderEntry)) (entries repeated : List FolderEntry) : Type 0 where
  pub same : AreThose observed entries repeated
  pub in_order : AreInOrder entries
  pub are_repeated : AreRepeated entries repeated

-- a whole visit: each entry has an outcome
pub record IsVisit (into : Destination) (visit : Visit) : Type 0 where
  pub listed : AreListed visit.observed (map entry_of visit.kids) visit.repeated
  pub kids : AllByRecursion (MayCome into) visit.kids

-- the front of a visit: the first entries have outcomes
pub record IsBegun (into : Destination) (visit : Visit) : Type 0 where
  pub rest : List FolderEntry
  pub listed : AreListed visit.observed (map entry_of visit.kids ++ rest) visit.repeated
  pub kids : AllByRecursion (MayCome into) visit.kids

-- the watcher is informed of a repeated entry
abbrev pub report_repeated : List ℕ → FolderEntry → Deed
report_repeated path entry = Informed (Left (below path entry.name) reasons.SameName)

-- The folder is listed, and the repeated entries are reported. An unreadable folder is reported itself.
abbrev pub deeds_of_listing : List ℕ → Option (List FolderEntry) → List FolderEntry → List Deed
deeds_of_listing path None repeated = Observed (Unlisted path) ∷ Informed (Left path reasons.Unreadable) ∷ []
deeds_of_listing path (Some observed) repeated = Observed (Listed path observed) ∷ map (report_repeated path) repeated

-- then the entries are submitted one after the other
abbrev pub deeds_of_visit : Destination → Visit → List Deed
deeds_of_visit into visit =
    deeds_of_listing visit.folder.path visit.observed visit.repeated
    ++ flat_map (deeds_of_kid into visit.folder.path) visit.kids

-- the folders that were found in it, in order
abbrev pub subfolders_of_visit : Visit → List PendingFolder
subfolders_of_visit visit = flat_map (subfolders_of_kid visit.folder.path) visit.kids

-- what of it is in the profile, in order
abbrev pub nodes_of_visit : Destination → Visit → List Node
nodes_of_visit into visit = flat_map (nodes_of_kid into visit.folder.path) visit.kids

-- the folder was listed, no name is repeated, and each entry is in the profile as it is in the tree
abbrev pub is_whole : Destination → Visit → Bool
is_whole into visit = is_some visit.observed && ((length visit.repeated == 0) && list_all (is_taken into) visit.kids)
