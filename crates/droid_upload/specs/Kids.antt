-- What comes of the entries of one folder when they are submitted (this project's own).
use Rattle.std.specs.Prelude.{◌≡◌, ℕ, Bool, true, false, List, [], ◌∷◌, IsUtf8}
use Rattle.droid_frame.specs.declared.refusal.Refusal.{Refusal}
use Rattle.droid_frame.specs.declared.reply.Reply.TheVariants as replies
use Rattle.droid_frame.specs.declared.request.Request.{Request}
use Rattle.droid_frame.specs.declared.request.Request.TheVariants.{AddFolder}
use Rattle.droid_hash.specs.Findings.{no_finding}
use Rattle.droid_tree.specs.Heard.{Left, TookFolder}
use Rattle.droid_tree.specs.Kinds.{IsNoNode, reason_of_kind}
use Rattle.droid_tree.specs.Paths.{below}
use Rattle.droid_tree.specs.declared.folder_entry.FolderEntry.{FolderEntry}
use Rattle.droid_tree.specs.declared.folder_entry.EntryKind.TheVariants as kinds
use Rattle.droid_tree.specs.declared.pending_folder.PendingFolder.{PendingFolder}
use Rattle.droid_tree.specs.declared.skip_reason.Skipped.TheVariants as reasons
use Rattle.droid_upload.specs.Calls.{Answered}
use Rattle.droid_upload.specs.Deeds.{Deed, Called, Informed}
use Rattle.droid_upload.specs.FileOutcomes.{FileOutcome, MayComeOfFile, deeds_of_file, uploaded_of}
use Rattle.droid_upload.specs.Faults.{skips}
use Rattle.droid_upload.specs.declared.upload.Destination.{Destination}
use Rattle.droid_upload.specs.declared.upload.Uploaded.{Uploaded}
use Rattle.droid_upload.specs.declared.upload.Uploaded.TheVariants as uploads
use Rattle.droid_upload.specs.declared.upload.UploadedFile.{UploadedFile}
use Rattle.droid_upload.specs.declared.node.Node.{Node}

-- The outcome of an entry: a folder with its number in the profile; a folder that the service refused; a file with its
-- outcome; neither a folder nor a file; or an entry whose name is not UTF-8.
pub data Kid : Type 0 where
  Subfolder : (entry : FolderEntry) (number : ℕ) → Kid
  RefusedFolder : (entry : FolderEntry) (refusal : Refusal) → Kid
  AFile : (entry : FolderEntry) (outcome : FileOutcome) → Kid
  OtherKind : (entry : FolderEntry) → Kid
  NoText : (entry : FolderEntry) → Kid

-- as its folder lists it, whatever comes of it
abbrev pub entry_of : Kid → FolderEntry
entry_of (Subfolder entry number) = entry
entry_of (RefusedFolder entry refusal) = entry
entry_of (AFile entry outcome) = entry
entry_of (OtherKind entry) = entry
entry_of (NoText entry) = entry

-- this may come of an entry
abbrev pub MayCome : Destination → Kid → Type 0
MayCome into (Subfolder entry number) = IsUtf8 entry.name × (entry.kind ≡ kinds.Folder)
MayCome into (RefusedFolder entry refusal) = IsUtf8 entry.name × (entry.kind ≡ kinds.Folder) × (skips refusal ≡ true)
MayCome into (AFile entry outcome) = IsUtf8 entry.name × (entry.kind ≡ kinds.File) × MayComeOfFile into entry outcome
MayCome into (OtherKind entry) = IsUtf8 entry.name × IsNoNode entry.kind
MayCome into (NoText entry) = ¬ (IsUtf8 entry.name)

-- the request for a folder
abbrev pub folder_request : Destination → FolderEntry → Request
folder_request into entry = AddFolder into.profile into.folder entry.modified entry.name

-- what is done for an entry of the folder at this path
abbrev pub deeds_of_kid : Destination → List ℕ → Kid → List Deed
deeds_of_kid into path (Subfolder entry number) =
    Called (Answered 0 (folder_request into entry) (replies.Node number))
    ∷ Informed (TookFolder (below path entry.name)) ∷ []
deeds_of_kid into path (RefusedFolder entry refusal) =
    Called (Answered 0 (folder_request into entry) (replies.Refused refusal))
    ∷ Informed (Left (below path entry.name) (reasons.Refused refusal)) ∷ []
deeds_of_kid into path (AFile entry outcome) = deeds_of_file into (below path entry.name) entry outcome
deeds_of_kid into path (OtherKind entry) = Informed (Left (below path entry.name) (reason_of_kind entry.kind)) ∷ []
deeds_of_kid into path (NoText entry) = Informed (Left (below path entry.name) reasons.Name) ∷ []

-- the folder that it is, which is pending now
abbrev pub subfolders_of_kid : List ℕ → Kid → List PendingFolder
subfolders_of_kid path (Subfolder entry number) = record { path = below path entry.name; number = number } ∷ []
subfolders_of_kid path _ = []

-- ---- the nodes of the profile

module _ (into : Destination) (path : List ℕ) where
  -- a folder has no length, and nothing is said of it
  abbrev pub folder_node : ℕ → FolderEntry → Node
  folder_node number entry = record {
    number = number;
    parent = into.folder;
    path = path;
    kind = kinds.Folder;
    modified = entry.modified;
    len = 0;
    found = no_finding;
    is_read = true;
  }

  -- a file, with what the service said of it
  abbrev pub file_node : FolderEntry → UploadedFile → Node
  file_node entry file = record {
    number = file.number;
    parent = into.folder;
    path = path;
    kind = kinds.File;
    modified = entry.modified;
    len = entry.len;
    found = file.found;
    is_read = file.is_read;
  }

  -- a file that differs is in the profile, with what the service said of it
  abbrev pub nodes_of_file : FolderEntry → Uploaded → List Node
  nodes_of_file entry (uploads.Taken file) = file_node entry file ∷ []
  nodes_of_file entry (uploads.Differs file) = file_node entry file ∷ []
  nodes_of_file entry uploads.Skipped = []

-- the folder or file that it is in the profile
abbrev pub nodes_of_kid : Destination → List ℕ → Kid → List Node
nodes_of_kid into path (Subfolder entry number) = folder_node into (below path entry.name) number entry ∷ []
nodes_of_kid into path (AFile entry outcome) =
    nodes_of_file into (below path entry.name) entry (uploaded_of into entry outcome)
nodes_of_kid into path _ = []

-- the file is in the profile as it is in the tree
abbrev pub is_taken_file : Uploaded → Bool
is_taken_file (uploads.Taken file) = true
is_taken_file (uploads.Differs file) = false
is_taken_file uploads.Skipped = false

-- it is in the profile as it is in the tree
abbrev pub is_taken : Destination → Kid → Bool
is_taken into (Subfolder entry number) = true
is_taken into (AFile entry outcome) = is_taken_file (uploaded_of into entry outcome)
is_taken into _ = false
