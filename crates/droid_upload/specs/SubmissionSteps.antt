-- What each part of a submission does: an entry, some entries, a folder.
use Rattle.std.specs.Prelude.{◌≡◌, ℕ, ◌==◌, ◌&&◌, Bool, List, ◌++◌, length, map, Some}
use Rattle.std.specs.List.{flat_map, list_all, AllByRecursion}
use Rattle.droid_tree.specs.Observation.{GoesOver, Listed}
use Rattle.droid_tree.specs.declared.folder_entry.FolderEntry.{FolderEntry}
use Rattle.droid_tree.specs.declared.pending_folder.PendingFolder.{PendingFolder}
use Rattle.droid_upload.specs.FolderVisits.{Visit, AreListed, IsBegun, IsVisit, deeds_of_visit, is_whole}
use Rattle.droid_upload.specs.FolderVisits.{nodes_of_visit, report_repeated, subfolders_of_visit}
use Rattle.droid_upload.specs.Kids.{Kid, MayCome, deeds_of_kid, entry_of, is_taken, nodes_of_kid, subfolders_of_kid}
use Rattle.droid_upload.specs.declared.findings.Found.{Found}
use Rattle.droid_upload.specs.Deeds.{Deed, Observed}
use Rattle.droid_upload.specs.declared.upload.Destination.{Destination}

-- the outcome of an entry of this folder; what it is in the profile was found
pub record TakesKid {S : Type 0} (does : S → Deed → S → Type 0) (into : Destination) (folder : PendingFolder)
    (entry : FolderEntry) (taken : Bool) (old new : S) (found found_after : Found) : Type 0 where
  pub kid : Kid
  pub its : entry_of kid ≡ entry
  pub may_come : MayCome into kid
  pub taken_is : taken ≡ is_taken into kid
  pub happened : GoesOver does old (deeds_of_kid into folder.path kid) new
  pub pending : found_after.pending.items ≡ found.pending.items ++ subfolders_of_kid folder.path kid
  pub nodes : found_after.nodes.items ≡ found.nodes.items ++ nodes_of_kid into folder.path kid

-- the outcomes of all these entries of this folder
pub record TakesKids {S : Type 0} (does : S → Deed → S → Type 0) (into : Destination) (folder : PendingFolder)
    (entries : List FolderEntry) (taken : Bool) (old new : S) (found found_after : Found) : Type 0 where
  pub kids : List Kid
  pub its : map entry_of kids ≡ entries
  pub may_come : AllByRecursion (MayCome into) kids
  pub taken_is : taken ≡ list_all (is_taken into) kids
  pub happened : GoesOver does old (flat_map (deeds_of_kid into folder.path) kids) new
  pub pending : found_after.pending.items ≡ found.pending.items ++ flat_map (subfolders_of_kid folder.path) kids
  pub nodes : found_after.nodes.items ≡ found.nodes.items ++ flat_map (nodes_of_kid into folder.path) kids

-- the repeated entries of this folder were reported, and the other entries have these outcomes
pub record TakesListing {S : Type 0} (does : S → Deed → S → Type 0) (into : Destination) (folder : PendingFolder)
    (entries repeated : List FolderEntry) (whole : Bool) (old new : S) (found found_after : Found) : Type 0 where
  pub kids : List Kid
  pub its : map entry_of kids ≡ entries
  pub may_come : AllByRecursion (MayCome into) kids
  pub whole_is : whole ≡ ((length repeated == 0) && list_all (is_taken into) kids)
  pub happened : GoesOver does old
      (map (report_repeated folder.path) repeated ++ flat_map (deeds_of_kid into folder.path) kids) new
  pub pending : found_after.pending.items ≡ found.pending.items ++ flat_map (subfolders_of_kid folder.path) kids
  pub nodes : found_after.nodes.items ≡ found.nodes.items ++ flat_map (nodes_of_kid into folder.path) kids

-- this folder was visited
pub record TakesVisit {S : Type 0} (does : S → Deed → S → Type 0) (into : Destination) (folder : PendingFolder)
    (whole : Bool) (old new : S) (found found_after : Found) : Type 0 where
  pub visit : Visit
  pub its : visit.folder ≡ folder
  pub is_visit : IsVisit into visit
  pub whole_is : whole ≡ is_whole into visit
  pub happened : GoesOver does old (deeds_of_visit into visit) new
  pub pending : found_after.pending.items ≡ found.pending.items ++ subfolders_of_visit visit
  pub nodes : found_after.nodes.items ≡ found.nodes.items ++ nodes_of_visit into visit

-- the folder at this path was listed
pub record ListsFolder {S : Type 0} (does : S → Deed → S → Type 0) (path : List ℕ) (entries repeated : List FolderEntry)
    (old new : S) : Type 0 where
  pub observed : List FolderEntry
  pub listed : AreListed (Some observed) entries repeated
  pub happened : does old (Observed (Listed path observed)) new

-- ---- of what an early end is a front

-- these are the deeds of the first of these entries
pub record AreOfFirst (into : Destination) (path : List ℕ) (entries : List FolderEntry) (deeds : List Deed)
    : Type 0 where
  pub kids : List Kid
  pub rest : List FolderEntry
  pub its : map entry_of kids ++ rest ≡ entries
  pub may_come : AllByRecursion (MayCome into) kids
  pub are : deeds ≡ flat_map (deeds_of_kid into path) kids

-- the repeated entries are reported, and these are the deeds of the first of the others
pub record AreOfListing (into : Destination) (path : List ℕ) (entries repeated : List FolderEntry) (deeds : List Deed)
    : Type 0 where
  pub kids : List Kid
  pub rest : List FolderEntry
  pub its : map entry_of kids ++ rest ≡ entries
  pub may_come : AllByRecursion (MayCome into) kids
  pub are : deeds ≡ map (report_repeated path) repeated ++ flat_map (deeds_of_kid into path) kids

-- these are the deeds of a visit of this folder that is at least begun
pub record AreOfVisit (into : Destination) (folder : PendingFolder) (deeds : List Deed) : Type 0 where
  pub visit : Visit
  pub its : visit.folder ≡ folder
  pub is_begun : IsBegun into visit
  pub are : deeds ≡ deeds_of_visit into visit
