-- What comes of a file (this project's own).
use Rattle.std.specs.Prelude.{◌≡◌, ℕ, suc, ◌==◌, ◌&&◌, not, cond, Bool, true, false, List, [], ◌∷◌, ◌++◌, length}
use Rattle.std.specs.Prelude.{bytes_eq}
use Rattle.droid_frame.specs.Hashes.{hash, hash_bytes, hash_kind_number, hash_value_kind}
use Rattle.droid_frame.specs.declared.hash_kind.HashKind.{HashKind}
use Rattle.droid_frame.specs.declared.hash_value.HashValue.{HashValue}
use Rattle.droid_frame.specs.declared.hash_value.HashValue.TheVariants as values
use Rattle.droid_frame.specs.declared.refusal.Refusal.{Refusal}
use Rattle.droid_frame.specs.declared.refusal.Refusal.TheVariants as refusals
use Rattle.droid_frame.specs.declared.reply.Reply.{Reply}
use Rattle.droid_frame.specs.declared.reply.Reply.TheVariants as replies
use Rattle.droid_frame.specs.declared.request.Request.{Request}
use Rattle.droid_frame.specs.declared.request.Request.TheVariants.{AddFile, Finish, Abandon}
use Rattle.droid_hash.specs.Findings.{finding_of}
use Rattle.droid_tree.specs.Heard.{Heard, Left, Held, TookFile}
use Rattle.droid_tree.specs.Observation.{Read, GoesOver}
use Rattle.droid_tree.specs.Reading.{Stop, IsPastEnd, begin_of, observed_of_stop, reason_of}
use Rattle.droid_tree.specs.declared.folder_entry.FolderEntry.{FolderEntry}
use Rattle.droid_tree.specs.declared.skip_reason.Skipped.TheVariants as reasons
use Rattle.droid_upload.specs.Calls.{Answered, Failed}
use Rattle.droid_upload.specs.Deeds.{Deed, Observed, Called, Informed}
use Rattle.droid_upload.specs.Faults.{skips, is_finished, is_left}
use Rattle.droid_upload.specs.Pieces.{Reading, ReadAll, ReadPart, ReadOther, MayRead, joined, reading_deeds}
use Rattle.droid_upload.specs.declared.client_fault.ClientFault.TheVariants as client_faults
use Rattle.droid_upload.specs.declared.upload.Destination.{Destination}
use Rattle.droid_upload.specs.declared.upload.Upload.{Upload}
use Rattle.droid_upload.specs.declared.upload.Uploaded.{Uploaded}
use Rattle.droid_upload.specs.declared.upload.Uploaded.TheVariants as uploadeds
use Rattle.droid_upload.specs.declared.upload.UploadedFile.{UploadedFile}

-- what was done with a file that was finished before
pub data Holding : Type 0 where
  -- it was not read; of an empty file the end was seen before
  Kept : Holding
  -- all of it was read again
  ReadAgain : (pieces : List (List ℕ)) → Holding
  -- its reading ended early
  ReadPartly : (pieces : List (List ℕ)) (stop : Stop) → Holding

-- `gone` are the numbers that the file had before, of nodes that were abandoned
pub data FileOutcome : Type 0 where
  -- an empty file whose end could not be seen: nothing was asked
  UnreadFile : (stop : Stop) → FileOutcome
  -- the service refused it
  RefusedFile : (gone : List ℕ) (refusal : Refusal) → FileOutcome
  -- it was finished before: it was kept as it is, or read again
  HeldFile : (gone : List ℕ) (number : ℕ) (found : Reply) (holding : Holding) → FileOutcome
  -- all pieces were read, those from index `first` on sent, and the file was finished
  WholeFile : (gone : List ℕ) (number first : ℕ) (pieces : List (List ℕ)) (found : Reply) → FileOutcome
  -- its reading ended early, and it was abandoned
  DroppedFile : (gone : List ℕ) (number first : ℕ) (pieces : List (List ℕ)) (stop : Stop) (left : Reply) → FileOutcome
  -- A piece was refused with NumberReused, since the service has other bytes, and the file was abandoned. The client
  -- said so when a piece was sent, at the end, or when the file was abandoned since its reading had ended early.
  ChangedPiece : (gone : List ℕ) (number first : ℕ) (pieces : List (List ℕ)) (bytes : List ℕ) (left : Reply)
      → FileOutcome
  ChangedEnd : (gone : List ℕ) (number first : ℕ) (pieces : List (List ℕ)) (left : Reply) → FileOutcome
  ChangedStop : (gone : List ℕ) (number first : ℕ) (pieces : List (List ℕ)) (stop : Stop) (left : Reply) → FileOutcome

-- ---- hashes

-- two hashes of one kind, with the same bytes
abbrev pub same_hash : HashValue → HashValue → Bool
same_hash one other =
    (hash_kind_number (hash_value_kind one) == hash_kind_number (hash_value_kind other))
    && bytes_eq (hash_bytes one) (hash_bytes other)

-- the reply that finished a file has another hash than the bytes that were read; without a hash nothing is compared
abbrev pub has_other_hash : HashValue → Reply → Bool
has_other_hash read (replies.Finished method mismatch hash puids) =
    not (hash_kind_number (hash_value_kind read) == 0) && not (same_hash read hash)
has_other_hash read _ = false

-- what the watcher learns of a finished file
abbrev pub heard_of_end : List ℕ → HashValue → Reply → Heard
heard_of_end path read found = cond (has_other_hash read found) (Left path reasons.OtherHash) (TookFile path found)

-- a file in the profile: its number, what its Finished said, and whether all of it was read in this run
abbrev pub file_of : ℕ → Bool → Reply → UploadedFile
file_of number is_read found = record { number = number; found = finding_of found; is_read = is_read }

-- what is returned of a file that is finished: taken, or with another hash than was read
abbrev pub uploaded_of_end : ℕ → Bool → HashValue → Reply → Uploaded
uploaded_of_end number is_read read found =
    cond (has_other_hash read found) (uploadeds.Differs (file_of number is_read found))
    (uploadeds.Taken (file_of number is_read found))

-- the hash of a file that was not read again: that of no bytes if it is empty, and otherwise none
abbrev pub hash_of_held : HashKind → ℕ → HashValue
hash_of_held kind size = cond (size == 0) (hash kind []) values.Nothing

-- ---- deeds

-- a file was abandoned, since the service has other bytes of it
abbrev pub changed_deeds : ℕ → ℕ → List ℕ → Reply → List Deed
changed_deeds profile number path left =
    Called (Answered 0 (Abandon profile number) left) ∷ Informed (Left path (reasons.Refused refusals.NumberReused))
    ∷ []

module _ (into : Destination) (entry : FolderEntry) where
  -- the request that adds the file
  abbrev pub file_request : Request
  file_request = AddFile into.profile into.folder entry.modified entry.len into.piece_size entry.name

  -- each of these nodes was found abandoned, and the file was added again under the next attempt
  abbrev pub gone_deeds : ℕ → List ℕ → List Deed
  gone_deeds attempt [] = []
  gone_deeds attempt (number ∷ gone) =
      Called (Answered attempt file_request (replies.Node number))
      ∷ Called (Answered 0 (Finish into.profile number) (replies.Refused refusals.NoSuchNode))
      ∷ gone_deeds (suc attempt) gone

-- the end of an empty file is seen first
abbrev pub empty_deeds : List ℕ → FolderEntry → List Deed
empty_deeds path entry = cond (entry.len == 0) (Observed (Read path entry 0 1 []) ∷ []) []

-- ---- a file that was finished before

-- it is read again where that is asked for, and it has bytes
abbrev pub is_checked : Destination → FolderEntry → Bool
is_checked into entry = into.check && not (entry.len == 0)

-- behind the index of every piece: so none is sent
abbrev pub past_all : ℕ
past_all = 4294967295

module _ (into : Destination) (entry : FolderEntry) where
  -- it was read again exactly where that is asked for, and it has bytes
  abbrev pub MayHold : Holding → Type 0
  MayHold Kept = is_checked into entry ≡ false
  MayHold (ReadAgain pieces) =
      (is_checked into entry ≡ true) × MayRead into.piece_size entry.len past_all (ReadAll pieces)
  MayHold (ReadPartly pieces stop) =
      (is_checked into entry ≡ true) × MayRead into.piece_size entry.len past_all (ReadPart pieces stop)

module _ (into : Destination) (path : List ℕ) (entry : FolderEntry) (number : ℕ) where
  -- its pieces are read, and none is sent
  abbrev pub checking_deeds : Reading → List Deed
  checking_deeds reading =
      Informed (Held path entry.len) ∷ reading_deeds into.profile number past_all path entry reading

  -- what is done with it, and what the watcher learns at the end
  abbrev pub holding_deeds : Reply → Holding → List Deed
  holding_deeds found Kept = Informed (heard_of_end path (hash_of_held into.hash entry.len) found) ∷ []
  holding_deeds found (ReadAgain pieces) =
      checking_deeds (ReadAll pieces) ++ Informed (heard_of_end path (hash into.hash (joined pieces)) found) ∷ []
  holding_deeds found (ReadPartly pieces stop) =
      checking_deeds (ReadPart pieces stop) ++ Informed (Left path (reason_of stop)) ∷ []

-- of a file that was finished before, by whether it was read again
abbrev pub uploaded_of_holding : Destination → FolderEntry → ℕ → Reply → Holding → Uploaded
uploaded_of_holding into entry number found Kept =
    uploaded_of_end number (entry.len == 0) (hash_of_held into.hash entry.len) found
uploaded_of_holding into entry number found (ReadAgain pieces) =
    uploaded_of_end number true (hash into.hash (joined pieces)) found
uploaded_of_holding into entry number found (ReadPartly pieces stop) = uploadeds.Skipped

module _ (into : Destination) (path : List ℕ) (entry : FolderEntry) where
  -- the file was added, and this was replied
  abbrev pub added_deeds : List ℕ → Reply → List Deed
  added_deeds gone reply =
      empty_deeds path entry
      ++ (gone_deeds into entry 0 gone ++ Called (Answered (length gone) (file_request into entry) reply) ∷ [])

  -- the file was added, lacks the piece `first`, and its pieces were read
  abbrev pub begun_deeds : List ℕ → ℕ → ℕ → Reading → List Deed
  begun_deeds gone number first reading =
      added_deeds gone (replies.Node number)
      ++ (Called (Answered 0 (Finish into.profile number) (replies.Refused (refusals.Incomplete first)))
      ∷ Informed (Held path (begin_of into.piece_size entry.len first))
      ∷ reading_deeds into.profile number first path entry reading)

  -- all that is read, asked and reported for a file, by its outcome
  abbrev pub deeds_of_file : FileOutcome → List Deed
  deeds_of_file (UnreadFile stop) =
      Observed (observed_of_stop path entry 0 stop) ∷ Informed (Left path (reason_of stop)) ∷ []
  deeds_of_file (RefusedFile gone refusal) =
      added_deeds gone (replies.Refused refusal) ++ Informed (Left path (reasons.Refused refusal)) ∷ []
  deeds_of_file (HeldFile gone number found holding) =
      added_deeds gone (replies.Node number)
      ++ Called (Answered 0 (Finish into.profile number) found) ∷ holding_deeds into path entry number found holding
  deeds_of_file (WholeFile gone number first pieces found) =
      begun_deeds gone number first (ReadAll pieces)
      ++ Called (Answered 0 (Finish into.profile number) found)
      ∷ Informed (heard_of_end path (hash into.hash (joined pieces)) found) ∷ []
  deeds_of_file (DroppedFile gone number first pieces stop left) =
      begun_deeds gone number first (ReadPart pieces stop)
      ++ Called (Answered 0 (Abandon into.profile number) left) ∷ Informed (Left path (reason_of stop)) ∷ []
  deeds_of_file (ChangedPiece gone number first pieces bytes left) =
      begun_deeds gone number first (ReadOther pieces bytes) ++ changed_deeds into.profile number path left
  deeds_of_file (ChangedEnd gone number first pieces left) =
      begun_deeds gone number first (ReadAll pieces)
      ++ Called (Failed 0 (Finish into.profile number) (client_faults.Piece refusals.NumberReused))
      ∷ changed_deeds into.profile number path left
  deeds_of_file (ChangedStop gone number first pieces stop left) =
      begun_deeds gone number first (ReadPart pieces stop)
      ++ Called (Failed 0 (Abandon into.profile number) (client_faults.Piece refusals.NumberReused))
      ∷ changed_deeds into.profile number path left

-- this may come of the entry; a node that was added has a number, which is of use
module _ (into : Destination) (entry : FolderEntry) where
  abbrev pub MayBegin : ℕ → Reading → Type 0
  MayBegin first reading = MayRead into.piece_size entry.len first reading

  abbrev pub MayComeOfFile : FileOutcome → Type 0
  MayComeOfFile (UnreadFile stop) = (entry.len ≡ 0) × IsPastEnd stop
  MayComeOfFile (RefusedFile gone refusal) = skips refusal ≡ true
  MayComeOfFile (HeldFile gone number found holding) = (is_finished found ≡ true) × MayHold into entry holding
  MayComeOfFile (WholeFile gone number first pieces found) =
      MayBegin first (ReadAll pieces) × (is_finished found ≡ true)
  MayComeOfFile (DroppedFile gone number first pieces stop left) =
      MayBegin first (ReadPart pieces stop) × (is_left left ≡ true)
  MayComeOfFile (ChangedPiece gone number first pieces bytes left) =
      MayBegin first (ReadOther pieces bytes) × (is_left left ≡ true)
  MayComeOfFile (ChangedEnd gone number first pieces left) = MayBegin first (ReadAll pieces) × (is_left left ≡ true)
  MayComeOfFile (ChangedStop gone number first pieces stop left) =
      MayBegin first (ReadPart pieces stop) × (is_left left ≡ true)

-- ---- what is returned

-- of a file, by its outcome
abbrev pub uploaded_of : Destination → FolderEntry → FileOutcome → Uploaded
uploaded_of into entry (HeldFile gone number found holding) = uploaded_of_holding into entry number found holding
uploaded_of into entry (WholeFile gone number first pieces found) =
    uploaded_of_end number true (hash into.hash (joined pieces)) found
uploaded_of into entry _ = uploadeds.Skipped

-- the file has an outcome, and all that was done follows from it
pub record Uploads {T C W : Type 0} (does : Upload T C W → Deed → Upload T C W → Type 0) (into : Destination)
    (path : List ℕ) (entry : FolderEntry) (uploaded : Uploaded) (old new : Upload T C W) : Type 0 where
  pub outcome : FileOutcome
  pub may_come : MayComeOfFile into entry outcome
  pub happened : GoesOver does old (deeds_of_file into path entry outcome) new
  pub uploaded_is : uploaded ≡ uploaded_of into entry outcome

-- the deeds of a whole file
abbrev pub AreOfFile : Destination → List ℕ → FolderEntry → List Deed → Type 0
AreOfFile into path entry whole =
    (outcome : FileOutcome) × MayComeOfFile into entry outcome × (whole ≡ deeds_of_file into path entry outcome)
