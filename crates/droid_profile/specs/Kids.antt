-- What comes of the entries of one folder when a tree is profiled (this project's own).
use Rattle.std.specs.Prelude.{◌≡◌, ◌⊎◌, ℕ, ◌==◌, if◌then◌else◌, nat_lt, Bool, true, false, not, List, [], ◌∷◌, length}
use Rattle.std.specs.Prelude.{Option, Some, None, IsUtf8}
use Rattle.droid_core_spec.specs.Conditions.{is_bad_name, is_moment}
use Rattle.droid_core_spec.specs.Judging.{Check, refusal_of}
use Rattle.droid_frame.specs.Hashes.{hash}
use Rattle.droid_frame.specs.declared.refusal.Refusal.{Refusal}
use Rattle.droid_frame.specs.declared.refusal.Refusal.TheVariants as refusals
use Rattle.droid_frame.specs.declared.reply.Reply.{Reply}
use Rattle.droid_frame.specs.declared.reply.Reply.TheVariants as replies
use Rattle.droid_pronom.specs.Finding.{found_in}
use Rattle.droid_pronom.specs.Registry.{Contents}
use Rattle.droid_pronom.specs.declared.identification.Found.{Found}
use Rattle.droid_tree.specs.Heard.{Heard, Left, TookFolder, TookFile}
use Rattle.droid_tree.specs.Kinds.{IsNoNode, reason_of_kind}
use Rattle.droid_tree.specs.Observation.{Observation, Opened, Unopened}
use Rattle.droid_tree.specs.Paths.{below}
use Rattle.droid_tree.specs.declared.folder_entry.EntryKind.{EntryKind}
use Rattle.droid_tree.specs.declared.folder_entry.EntryKind.TheVariants as kinds
use Rattle.droid_tree.specs.declared.folder_entry.FolderEntry.{FolderEntry}
use Rattle.droid_tree.specs.declared.pending_folder.PendingFolder.{PendingFolder}
use Rattle.droid_tree.specs.declared.skip_reason.Skipped.TheVariants as reasons
use Rattle.droid_profile.specs.Readings.{Reading, Ending, AtEnd, TooShort, TooLong, NoneCame, OtherFile, NotYet}
use Rattle.droid_profile.specs.Readings.{IsReading, bytes_of, has_ended, is_whole, reads_in}
use Rattle.droid_profile.specs.declared.options.Options.{Options}

-- The outcome of an entry: a folder with its number; a folder that could not be opened; a file with its number, and how
-- it was read; neither a folder nor a file; a name that is not UTF-8; or a folder or file that no profile can have.
pub data Kid : Type 0 where
  Subfolder : (entry : FolderEntry) (number : ℕ) → Kid
  ClosedFolder : (entry : FolderEntry) → Kid
  AFile : (entry : FolderEntry) (number : ℕ) (reading : Reading) → Kid
  AnotherKind : (entry : FolderEntry) → Kid
  NoText : (entry : FolderEntry) → Kid
  RefusedEntry : (entry : FolderEntry) (refusal : Refusal) → Kid

-- as its folder lists it, whatever comes of it
abbrev pub entry_of : Kid → FolderEntry
entry_of (Subfolder entry number) = entry
entry_of (ClosedFolder entry) = entry
entry_of (AFile entry number reading) = entry
entry_of (AnotherKind entry) = entry
entry_of (NoText entry) = entry
entry_of (RefusedEntry entry refusal) = entry

-- ---- which entries no profile can have

-- as a service refuses them: for the name, for a path of more than 4,096 bytes, for the moment
abbrev pub entry_checks : List ℕ → FolderEntry → List Check
entry_checks path entry =
    (is_bad_name entry.name, refusals.BadName)
    ∷ (nat_lt 4096 (length (below path entry.name)), refusals.PathTooLong)
    ∷ (not (is_moment entry.modified), refusals.BadOption)
    ∷ []

-- why no profile can have this entry of the folder at this path, if so
unfoldable pub entry_refusal : List ℕ → FolderEntry → Option Refusal
entry_refusal path entry = refusal_of (entry_checks path entry)

-- a folder or a file
abbrev pub IsNode : EntryKind → Type 0
IsNode kind = (kind ≡ kinds.Folder) ⊎ (kind ≡ kinds.File)

-- this may come of an entry of the folder at this path
abbrev pub MayCome : List ℕ → Kid → Type 0
MayCome path (Subfolder entry number) =
    IsUtf8 entry.name × (entry.kind ≡ kinds.Folder) × (entry_refusal path entry ≡ None)
MayCome path (ClosedFolder entry) = IsUtf8 entry.name × (entry.kind ≡ kinds.Folder) × (entry_refusal path entry ≡ None)
MayCome path (AFile entry number reading) =
    IsUtf8 entry.name × (entry.kind ≡ kinds.File) × (entry_refusal path entry ≡ None) × IsReading entry.len reading
MayCome path (AnotherKind entry) = IsUtf8 entry.name × IsNoNode entry.kind
MayCome path (NoText entry) = ¬ (IsUtf8 entry.name)
MayCome path (RefusedEntry entry refusal) =
    IsUtf8 entry.name × IsNode entry.kind × (entry_refusal path entry ≡ Some refusal)

-- nothing more is to come of it
abbrev pub is_done : Kid → Bool
is_done (AFile entry number reading) = has_ended reading.ending
is_done _ = true

-- ---- its number, and what is to be visited

-- a folder and a file get a number, even if the file is dropped later
abbrev pub numbers_in : Kid → List ℕ
numbers_in (Subfolder entry number) = number ∷ []
numbers_in (AFile entry number reading) = number ∷ []
numbers_in _ = []

-- the folder that it is, which is to be visited
abbrev pub subfolders_of_kid : List ℕ → Kid → List PendingFolder
subfolders_of_kid path (Subfolder entry number) = record { path = below path entry.name; number = number } ∷ []
subfolders_of_kid path _ = []

-- ---- what the tree returned

-- whether a folder can be listed is asked when its turn has come
abbrev pub seen_of_kid : List ℕ → Kid → List Observation
seen_of_kid path (Subfolder entry number) = Opened (below path entry.name) ∷ []
seen_of_kid path (ClosedFolder entry) = Unopened (below path entry.name) ∷ []
seen_of_kid path _ = []

-- the reads of this entry, if it is the file with this number
abbrev pub reads_of_kid : ℕ → List ℕ → Kid → List Observation
reads_of_kid number path (AFile entry its reading) =
    if its == number then reads_in (below path entry.name) entry reading else []
reads_of_kid number path _ = []

-- ---- what the watcher learned

-- what a file is found to be, by its name and its bytes
abbrev pub found_of : Contents → Options → FolderEntry → List ℕ → Found
found_of registry options entry bytes = found_in registry entry.name bytes options.scan_limit options.match_all

-- what a service replies when it has finished a file with these bytes
abbrev pub file_reply : Options → Found → List ℕ → Reply
file_reply options found bytes = replies.Finished found.method found.mismatch (hash options.hash bytes) found.puids

-- that a file is in the profile; or why it was dropped; nothing while it is read
abbrev pub heard_of_file : Contents → Options → List ℕ → FolderEntry → Reading → Ending → List Heard
heard_of_file registry options path entry reading (AtEnd wanted bytes) =
    TookFile path (file_reply options (found_of registry options entry (bytes_of reading)) (bytes_of reading)) ∷ []
heard_of_file registry options path entry reading (TooShort wanted bytes) = Left path reasons.Changed ∷ []
heard_of_file registry options path entry reading (TooLong wanted bytes) = Left path reasons.Changed ∷ []
heard_of_file registry options path entry reading (NoneCame wanted) = Left path reasons.Unreadable ∷ []
heard_of_file registry options path entry reading (OtherFile wanted) = Left path reasons.Changed ∷ []
heard_of_file registry options path entry reading NotYet = []

-- that it is in the profile, or why it was skipped
abbrev pub heard_of_kid : Contents → Options → List ℕ → Kid → List Heard
heard_of_kid registry options path (Subfolder entry number) = TookFolder (below path entry.name) ∷ []
heard_of_kid registry options path (ClosedFolder entry) = Left (below path entry.name) reasons.Unreadable ∷ []
heard_of_kid registry options path (AFile entry number reading) =
    heard_of_file registry options (below path entry.name) entry reading reading.ending
heard_of_kid registry options path (AnotherKind entry) = Left (below path entry.name) (reason_of_kind entry.kind) ∷ []
heard_of_kid registry options path (NoText entry) = Left (below path entry.name) reasons.Name ∷ []
heard_of_kid registry options path (RefusedEntry entry refusal) =
    Left (below path entry.name) (reasons.Refused refusal) ∷ []

-- ---- whether the profile has it

-- it is a symbolic link
abbrev pub is_link : EntryKind → Bool
is_link kinds.Link = true
is_link _ = false

-- it is in the profile; a symbolic link is no part of one, and counts as if it were
abbrev pub is_taken : Kid → Bool
is_taken (Subfolder entry number) = true
is_taken (AFile entry number reading) = is_whole reading.ending
is_taken (AnotherKind entry) = is_link entry.kind
is_taken _ = false
