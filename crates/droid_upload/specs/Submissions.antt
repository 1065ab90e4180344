-- What is done for a tree that is submitted (this project's own).
use Rattle.std.specs.Prelude.{◌≡◌, ℕ, true, List, [], ◌∷◌, ◌++◌, map, Some}
use Rattle.std.specs.List.{flat_map, list_all, AllByRecursion, Contains}
use Rattle.droid_frame.specs.declared.reply.Reply.TheVariants as replies
use Rattle.droid_frame.specs.declared.request.Request.{Request}
use Rattle.droid_frame.specs.declared.request.Request.TheVariants.{CreateProfile}
use Rattle.droid_tree.specs.Observation.{GoesOver}
use Rattle.droid_tree.specs.Paths.{below, top}
use Rattle.droid_tree.specs.declared.folder_entry.FolderEntry.{FolderEntry}
use Rattle.droid_tree.specs.declared.pending_folder.PendingFolder.{PendingFolder}
use Rattle.droid_upload.specs.FolderVisits.{Visit, IsBegun, IsVisit, deeds_of_visit, is_whole, nodes_of_visit}
use Rattle.droid_upload.specs.FolderVisits.{subfolders_of_visit}
use Rattle.droid_upload.specs.declared.node.Node.{Node}
use Rattle.droid_upload.specs.declared.tree_submission.Options.{Options}
use Rattle.droid_upload.specs.declared.tree_submission.Submitted.{Submitted}
use Rattle.droid_upload.specs.Calls.{Answered}
use Rattle.droid_upload.specs.Deeds.{Deed, Called}
use Rattle.droid_upload.specs.declared.upload.Destination.{Destination}

-- the request for the profile
abbrev pub profile_request : Options → Request
profile_request options = CreateProfile options.scan_limit options.match_all options.hash

-- the entries of a folder go into this folder of the profile
abbrev pub into_of : Options → ℕ → PendingFolder → Destination
into_of options profile folder = record {
  profile = profile;
  folder = folder.number;
  piece_size = options.piece_size;
  hash = options.hash;
  check = options.check;
}

-- what is done in a folder of the tree
abbrev pub deeds_in : Options → ℕ → Visit → List Deed
deeds_in options profile visit = deeds_of_visit (into_of options profile visit.folder) visit

-- the profile is created, and then the folders are visited one after the other
abbrev pub deeds_of_tree : Options → ℕ → List Visit → List Deed
deeds_of_tree options profile visits =
    Called (Answered 0 (profile_request options) (replies.Made profile)) ∷ flat_map (deeds_in options profile) visits

-- the top was visited first, and then each folder that was found, once, in the order in which they were found; these
-- folders were found and are not visited yet
abbrev pub EachFolderOnce : List Visit → List PendingFolder → Type 0
EachFolderOnce visits pending =
    map (λ visit. visit.folder) visits ++ pending ≡ top ∷ flat_map subfolders_of_visit visits

-- the folder was visited as one of this profile
abbrev pub IsVisitIn : Options → ℕ → Visit → Type 0
IsVisitIn options profile visit = IsVisit (into_of options profile visit.folder) visit

-- all visits are whole, but the last one may be only begun
abbrev pub AreBegun : Options → ℕ → List Visit → Type 0
AreBegun options profile [] = Unit {0}
AreBegun options profile (visit ∷ []) = IsBegun (into_of options profile visit.folder) visit
AreBegun options profile (visit ∷ (next ∷ visits)) =
    IsVisitIn options profile visit × AreBegun options profile (next ∷ visits)

-- ---- the result

-- among these nodes is an entry of the folder at this path, with its kind and moment
pub record HasNode (nodes : List Node) (path : List ℕ) (entry : FolderEntry) : Type 0 where
  pub node : Node
  pub is_there : Contains nodes node
  pub path_is : node.path ≡ below path entry.name
  pub kind_is : node.kind ≡ entry.kind
  pub modified_is : node.modified ≡ entry.modified

-- the folder was listed, and among these nodes is each entry that the tree returned
pub record IsComplete (nodes : List Node) (visit : Visit) : Type 0 where
  pub listed : List FolderEntry
  pub observed : visit.observed ≡ Some listed
  pub entries : (entry : FolderEntry) → Contains listed entry → HasNode nodes visit.folder.path entry

-- The tree was submitted: what was done, folder by folder, whether everything is in the profile as it is in the tree,
-- and the folders and files that are in the profile. If everything is, each entry that was listed is among these.
pub record SubmitsTree {S : Type 0} (does : S → Deed → S → Type 0) (options : Options) (submitted : Submitted)
    (old new : S) : Type 0 where
  pub visits : List Visit
  pub each_folder : EachFolderOnce visits []
  pub visited : AllByRecursion (IsVisitIn options submitted.profile) visits
  pub happened : GoesOver does old (deeds_of_tree options submitted.profile visits) new
  pub whole_is : submitted.whole
      ≡ list_all (λ visit. is_whole (into_of options submitted.profile visit.folder) visit) visits
  pub nodes_are : submitted.nodes.items
      ≡ flat_map (λ visit. nodes_of_visit (into_of options submitted.profile visit.folder) visit) visits
  pub complete : submitted.whole ≡ true → AllByRecursion (IsComplete submitted.nodes.items) visits

-- ---- an early end

-- these are the deeds of the first folders of a tree, of the last one maybe not all
pub record AreOfFront (options : Options) (deeds : List Deed) : Type 0 where
  pub profile : ℕ
  pub visits : List Visit
  pub pending : List PendingFolder
  pub each_folder : EachFolderOnce visits pending
  pub begun : AreBegun options profile visits
  pub are : deeds ≡ deeds_of_tree options profile visits
