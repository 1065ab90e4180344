-- For inner clauses and proofs: what each part of an upload does.
use Rattle.std.specs.Prelude.{◌≡◌, ◌≢◌, ℕ, ◌-◌, ◌≤◌, min, true, Option, Some, None, List, [], ◌∷◌, ◌++◌, length}
use Rattle.droid_frame.specs.Fields.{u32_bytes}
use Rattle.droid_frame.specs.Hashes.{hash}
use Rattle.droid_frame.specs.declared.hash_value.HashValue.{HashValue}
use Rattle.droid_frame.specs.declared.refusal.Refusal.{Refusal}
use Rattle.droid_frame.specs.declared.refusal.Refusal.TheVariants as refusals
use Rattle.droid_frame.specs.declared.reply.Reply.{Reply}
use Rattle.droid_frame.specs.declared.reply.Reply.TheVariants as replies
use Rattle.droid_frame.specs.declared.request.Request.{Request}
use Rattle.droid_frame.specs.declared.request.Request.TheVariants.{Piece, Finish, Abandon}
use Rattle.droid_frame.specs.RunningHashes.{running_kind, HoldsAll}
use Rattle.droid_frame.specs.declared.running_hash.RunningHash.{RunningHash}
use Rattle.droid_tree.specs.Heard.{Left, Held, TookBytes}
use Rattle.droid_tree.specs.Observation.{Observation, Read, GoesOver}
use Rattle.droid_tree.specs.Reading.{Stop, IsPastEnd, IsShort, StopsAt, begin_of, reason_of}
use Rattle.droid_tree.specs.declared.folder_entry.FolderEntry.{FolderEntry}
use Rattle.droid_tree.specs.declared.skip_reason.Skipped.{Skipped}
use Rattle.droid_tree.specs.declared.skip_reason.Skipped.TheVariants as reasons
use Rattle.droid_upload.specs.Calls.{Answered, Failed, Sent}
use Rattle.droid_upload.specs.Deeds.{Deed, Observed, Called, Informed}
use Rattle.droid_upload.specs.Faults.{fault_of_client, is_countable, is_finished, is_left, skips}
use Rattle.droid_upload.specs.FileOutcomes.{FileOutcome, Holding, RefusedFile, HeldFile, WholeFile, DroppedFile}
use Rattle.droid_upload.specs.FileOutcomes.{ChangedPiece, ChangedEnd, ChangedStop, MayHold, changed_deeds, file_request}
use Rattle.droid_upload.specs.FileOutcomes.{gone_deeds, heard_of_end, holding_deeds, uploaded_of_end}
use Rattle.droid_upload.specs.FileOutcomes.{uploaded_of_holding}
use Rattle.droid_upload.specs.Fronts.{EndsEarly}
use Rattle.droid_upload.specs.Pieces.{Reading, ReadAll, ReadPart, ReadOther, AreCut, MayRead, joined, piece_deeds}
use Rattle.droid_upload.specs.Pieces.{reading_deeds, sending_deeds}
use Rattle.droid_upload.specs.declared.client_fault.ClientFault.{ClientFault}
use Rattle.droid_upload.specs.declared.client_fault.ClientFault.TheVariants as client_faults
use Rattle.droid_upload.specs.declared.file_opening.NodeState.{NodeState}
use Rattle.droid_upload.specs.declared.file_opening.NodeState.TheVariants as states
use Rattle.droid_upload.specs.declared.file_opening.Opened.{Opened}
use Rattle.droid_upload.specs.declared.file_opening.Opened.TheVariants as openeds
use Rattle.droid_upload.specs.declared.file_pieces.Progress.{Progress}
use Rattle.droid_upload.specs.declared.file_pieces.Progress.TheVariants as progresses
use Rattle.droid_upload.specs.declared.file_pieces.Target.{Target}
use Rattle.droid_upload.specs.declared.submission_fault.SubmissionFault.{SubmissionFault}
use Rattle.droid_upload.specs.declared.upload.Destination.{Destination}
use Rattle.droid_upload.specs.declared.upload.Upload.{Upload}
use Rattle.droid_upload.specs.declared.upload.Uploaded.{Uploaded}
use Rattle.droid_upload.specs.declared.upload.Uploaded.TheVariants as uploadeds

-- these deeds, and such behind them
abbrev pub IsBehind : List Deed → (List Deed → Type 0) → List Deed → Type 0
IsBehind before Are whole = (tail : List Deed) × Are tail × (whole ≡ before ++ tail)

-- a part of a run ended early that followed such deeds
abbrev pub EndsAfter : {T C W : Type 0} → (Upload T C W → Deed → Upload T C W → Type 0) → (List Deed → Type 0)
    → (List Deed → Type 0) → SubmissionFault → Upload T C W → Upload T C W → Type 0
EndsAfter {T} {C} {W} does IsBefore Are fault old new =
    (first : Upload T C W) (before : List Deed) → IsBefore before → GoesOver does first before old
    → EndsEarly does (IsBehind before Are) fault first new

-- the tree returned this
abbrev pub Sees : {T C W : Type 0} → (Upload T C W → Deed → Upload T C W → Type 0) → Upload T C W → Observation
    → Upload T C W → Type 0
Sees does old observation new = does old (Observed observation) new

-- ---- pieces

-- what stands before the bytes in the body of a Piece
abbrev pub piece_head : ℕ → ℕ → ℕ → List ℕ
piece_head profile number index = u32_bytes profile ++ (u32_bytes number ++ u32_bytes index)

-- these bytes were hashed
pub record Hashes (bytes : List ℕ) (old new : RunningHash) : Type 0 where
  pub kind : running_kind new ≡ running_kind old
  pub holds : (before : List ℕ) → HoldsAll old before → HoldsAll new (before ++ bytes)

module _ (to : Target) (path : List ℕ) (entry : FolderEntry) where
  -- where a piece begins, and how many bytes it has
  abbrev pub begin : ℕ → ℕ
  begin index = begin_of to.into.piece_size entry.len index

  abbrev pub wanted_at : ℕ → ℕ
  wanted_at index = min to.into.piece_size (entry.len - begin index)

  -- the deeds for a piece that was read
  abbrev pub passed_deeds : ℕ → List ℕ → List Deed
  passed_deeds index bytes =
      Observed (Read path entry (begin index) (wanted_at index) bytes)
      ∷ sending_deeds to.into.profile to.number to.first path entry index bytes

  abbrev pub other_deeds : ℕ → List ℕ → List Deed
  other_deeds index bytes =
      Observed (Read path entry (begin index) (wanted_at index) bytes)
      ∷ Called (Failed 0 (Piece to.into.profile to.number index bytes) (client_faults.Piece refusals.NumberReused)) ∷ []

  abbrev pub read_deeds : Reading → List Deed
  read_deeds reading = reading_deeds to.into.profile to.number to.first path entry reading

  -- a piece would be read and sent, or only read if the service has it
  abbrev pub ArePassed : ℕ → List Deed → Type 0
  ArePassed index whole = (bytes : List ℕ) × (length bytes ≡ wanted_at index) × (whole ≡ passed_deeds index bytes)

  -- the reading would end early
  abbrev pub ArePart : List Deed → Type 0
  ArePart whole =
      (pieces : List (List ℕ)) × (stop : Stop) × MayRead to.into.piece_size entry.len to.first (ReadPart pieces stop)
      × (whole ≡ read_deeds (ReadPart pieces stop))

  module _ {T C W : Type 0} (does : Upload T C W → Deed → Upload T C W → Type 0) where
    -- the piece was read, hashed, and sent unless the service has it
    pub record PassesOne (index : ℕ) (running running_after : RunningHash) (old new : Upload T C W) : Type 0 where
      pub bytes : List ℕ
      pub counted : length bytes ≡ wanted_at index
      pub happened : GoesOver does old (passed_deeds index bytes) new
      pub hashed : Hashes bytes running running_after

    -- the piece was read, and the client says that the service has other bytes
    pub record FindsOther (index : ℕ) (old new : Upload T C W) : Type 0 where
      pub bytes : List ℕ
      pub counted : length bytes ≡ wanted_at index
      pub behind : to.first ≤ index
      pub happened : GoesOver does old (other_deeds index bytes) new

    -- the outcome of one piece
    abbrev pub PassesPiece : ℕ → Progress → RunningHash → RunningHash → Upload T C W → Upload T C W → Type 0
    PassesPiece index progresses.Done running running_after old new = PassesOne index running running_after old new
    PassesPiece index (progresses.Stopped why) running running_after old new =
        StopsAt (Sees does) (IsShort (wanted_at index)) path entry (begin index) why old new
    PassesPiece index progresses.Changed running running_after old new = FindsOther index old new

    -- these many pieces were read, and sent unless the service has them
    pub record PassesFront (count : ℕ) (running running_after : RunningHash) (old new : Upload T C W) : Type 0 where
      pub pieces : List (List ℕ)
      pub counted : length pieces ≡ count
      pub length_is : length (joined pieces) ≡ begin count
      pub cut : AreCut to.into.piece_size entry.len 0 pieces
      pub happened : GoesOver does old (piece_deeds to.into.profile to.number to.first path entry 0 0 pieces) new
      pub hashed : Hashes (joined pieces) running running_after

    -- all pieces were
    pub record PassesAll (running running_after : RunningHash) (old new : Upload T C W) : Type 0 where
      pub count : ℕ
      pub front : PassesFront count running running_after old new
      pub all : begin count ≡ entry.len

    -- the reading ended early, for this reason
    pub record StopsPart (why : Skipped) (old new : Upload T C W) : Type 0 where
      pub pieces : List (List ℕ)
      pub stop : Stop
      pub may_read : MayRead to.into.piece_size entry.len to.first (ReadPart pieces stop)
      pub reason : why ≡ reason_of stop
      pub happened : GoesOver does old (read_deeds (ReadPart pieces stop)) new

    -- the client says that the service has other bytes, which ends the reading
    pub record StopsOther (old new : Upload T C W) : Type 0 where
      pub pieces : List (List ℕ)
      pub bytes : List ℕ
      pub may_read : MayRead to.into.piece_size entry.len to.first (ReadOther pieces bytes)
      pub happened : GoesOver does old (read_deeds (ReadOther pieces bytes)) new

    -- all pieces were read, hashed and sent, and the file has no more bytes
    pub record ReadsWhole (running running_after : RunningHash) (old new : Upload T C W) : Type 0 where
      pub pieces : List (List ℕ)
      pub may_read : MayRead to.into.piece_size entry.len to.first (ReadAll pieces)
      pub happened : GoesOver does old (read_deeds (ReadAll pieces)) new
      pub hashed : Hashes (joined pieces) running running_after

    -- the outcome of the pieces
    abbrev pub PassesPieces : Progress → RunningHash → RunningHash → Upload T C W → Upload T C W → Type 0
    PassesPieces progresses.Done running running_after old new = PassesAll running running_after old new
    PassesPieces (progresses.Stopped why) running running_after old new = StopsPart why old new
    PassesPieces progresses.Changed running running_after old new = StopsOther old new

    -- the outcome of reading a file
    abbrev pub ReadsFile : Progress → RunningHash → RunningHash → Upload T C W → Upload T C W → Type 0
    ReadsFile progresses.Done running running_after old new = ReadsWhole running running_after old new
    ReadsFile (progresses.Stopped why) running running_after old new = StopsPart why old new
    ReadsFile progresses.Changed running running_after old new = StopsOther old new

-- a file has no more bytes, or its end could not be seen
abbrev pub SeesEnd : {T C W : Type 0} → List ℕ → FolderEntry → (Upload T C W → Deed → Upload T C W → Type 0) → Progress
    → Upload T C W → Upload T C W → Type 0
SeesEnd path entry does progresses.Done old new = does old (Observed (Read path entry entry.len 1 [])) new
SeesEnd path entry does (progresses.Stopped why) old new =
    StopsAt (Sees does) IsPastEnd path entry entry.len why old new
SeesEnd path entry does progresses.Changed old new = ⊥

-- ---- one piece is sent

-- the request that has these bytes as the piece with this index
abbrev pub piece_request : Target → ℕ → List ℕ → Request
piece_request to index bytes = Piece to.into.profile to.number index bytes

-- it was sent, and the watcher informed; or the client says that a piece was refused since the service has other bytes
abbrev pub SendsPiece : {T C W : Type 0} → (Upload T C W → Deed → Upload T C W → Type 0) → Target → ℕ → List ℕ → List ℕ
    → Progress → Upload T C W → Upload T C W → Type 0
SendsPiece does to index path bytes progresses.Done old new =
    GoesOver does old (Called (Sent (piece_request to index bytes)) ∷ Informed (TookBytes path (length bytes)) ∷ []) new
SendsPiece does to index path bytes (progresses.Stopped why) old new = ⊥
SendsPiece does to index path bytes progresses.Changed old new =
    does old (Called (Failed 0 (piece_request to index bytes) (client_faults.Piece refusals.NumberReused))) new

-- it was not sent, for another reason
pub record FailsPiece {T C W : Type 0} (does : Upload T C W → Deed → Upload T C W → Type 0) (to : Target) (index : ℕ)
    (bytes : List ℕ) (fault : SubmissionFault) (old new : Upload T C W) : Type 0 where
  pub why : ClientFault
  pub called : does old (Called (Failed 0 (piece_request to index bytes) why)) new
  pub fault_is : fault ≡ fault_of_client why
  pub other : why ≢ client_faults.Piece refusals.NumberReused

-- ---- the end of a file

-- how a file ended that was read whole
pub data Finishing : Type 0 where
  FinishedBy : (found : Reply) → Finishing
  FinishedOther : (left : Reply) → Finishing

-- how a file ended whose reading ended early
pub data Dropping : Type 0 where
  AbandonedBy : (left : Reply) → Dropping
  AbandonedOther : (left : Reply) → Dropping

-- the last reply fits
abbrev pub MayFinish : Finishing → Type 0
MayFinish (FinishedBy found) = is_finished found ≡ true
MayFinish (FinishedOther left) = is_left left ≡ true

-- the last reply fits
abbrev pub MayDrop : Dropping → Type 0
MayDrop (AbandonedBy left) = is_left left ≡ true
MayDrop (AbandonedOther left) = is_left left ≡ true

-- what is returned of it
abbrev pub uploaded_of_finishing : ℕ → HashValue → Finishing → Uploaded
uploaded_of_finishing number read (FinishedBy found) = uploaded_of_end number true read found
uploaded_of_finishing number read (FinishedOther left) = uploadeds.Skipped

module _ (profile number : ℕ) (path : List ℕ) where
  -- what is done at the end of a file that was read whole
  abbrev pub finishing_deeds : HashValue → Finishing → List Deed
  finishing_deeds read (FinishedBy found) =
      Called (Answered 0 (Finish profile number) found) ∷ Informed (heard_of_end path read found) ∷ []
  finishing_deeds read (FinishedOther left) =
      Called (Failed 0 (Finish profile number) (client_faults.Piece refusals.NumberReused))
      ∷ changed_deeds profile number path left

  -- what is done at the end of a file whose reading ended early, for this reason
  abbrev pub dropping_deeds : Skipped → Dropping → List Deed
  dropping_deeds why (AbandonedBy left) =
      Called (Answered 0 (Abandon profile number) left) ∷ Informed (Left path why) ∷ []
  dropping_deeds why (AbandonedOther left) =
      Called (Failed 0 (Abandon profile number) (client_faults.Piece refusals.NumberReused))
      ∷ changed_deeds profile number path left

  -- these are the deeds of finishing a file, whatever was replied
  abbrev pub AreFinishing : HashValue → List Deed → Type 0
  AreFinishing read whole = (finishing : Finishing) × MayFinish finishing × (whole ≡ finishing_deeds read finishing)

  -- these are the deeds of abandoning a file whose reading ended early
  abbrev pub AreDropping : Skipped → List Deed → Type 0
  AreDropping why whole = (dropping : Dropping) × MayDrop dropping × (whole ≡ dropping_deeds why dropping)

  -- these are the deeds of abandoning a file of which the service has other bytes
  abbrev pub AreChanged : List Deed → Type 0
  AreChanged whole = (left : Reply) × (is_left left ≡ true) × (whole ≡ changed_deeds profile number path left)

  module _ {T C W : Type 0} (does : Upload T C W → Deed → Upload T C W → Type 0) where
    -- a file that was read whole was ended: finished, or abandoned
    pub record Finishes (read : HashValue) (uploaded : Uploaded) (old new : Upload T C W) : Type 0 where
      pub finishing : Finishing
      pub may_finish : MayFinish finishing
      pub happened : GoesOver does old (finishing_deeds read finishing) new
      pub uploaded_is : uploaded ≡ uploaded_of_finishing number read finishing

    -- a file whose reading ended early was abandoned
    pub record Drops (why : Skipped) (uploaded : Uploaded) (old new : Upload T C W) : Type 0 where
      pub dropping : Dropping
      pub may_drop : MayDrop dropping
      pub happened : GoesOver does old (dropping_deeds why dropping) new
      pub uploaded_is : uploaded ≡ uploadeds.Skipped

    -- a file of which the service has other bytes was abandoned
    pub record Leaves (uploaded : Uploaded) (old new : Upload T C W) : Type 0 where
      pub left : Reply
      pub may_leave : is_left left ≡ true
      pub happened : GoesOver does old (changed_deeds profile number path left) new
      pub uploaded_is : uploaded ≡ uploadeds.Skipped

-- ---- a file of which the service lacks a piece

-- the outcome of the rest of a file
pub data Rest : Type 0 where
  RestWhole : (pieces : List (List ℕ)) (finishing : Finishing) → Rest
  RestPart : (pieces : List (List ℕ)) (stop : Stop) (dropping : Dropping) → Rest
  RestOther : (pieces : List (List ℕ)) (bytes : List ℕ) (left : Reply) → Rest

-- as an outcome of the file
abbrev pub outcome_of : List ℕ → ℕ → ℕ → Rest → FileOutcome
outcome_of gone number first (RestWhole pieces (FinishedBy found)) = WholeFile gone number first pieces found
outcome_of gone number first (RestWhole pieces (FinishedOther left)) = ChangedEnd gone number first pieces left
outcome_of gone number first (RestPart pieces stop (AbandonedBy left)) = DroppedFile gone number first pieces stop left
outcome_of gone number first (RestPart pieces stop (AbandonedOther left)) =
    ChangedStop gone number first pieces stop left
outcome_of gone number first (RestOther pieces bytes left) = ChangedPiece gone number first pieces bytes left

module _ (into : Destination) (path : List ℕ) (entry : FolderEntry) (number first : ℕ) where
  abbrev pub file_reading : Reading → List Deed
  file_reading reading = reading_deeds into.profile number first path entry reading

  abbrev pub tail_deeds : Rest → List Deed
  tail_deeds (RestWhole pieces finishing) =
      file_reading (ReadAll pieces)
      ++ finishing_deeds into.profile number path (hash into.hash (joined pieces)) finishing
  tail_deeds (RestPart pieces stop dropping) =
      file_reading (ReadPart pieces stop) ++ dropping_deeds into.profile number path (reason_of stop) dropping
  tail_deeds (RestOther pieces bytes left) =
      file_reading (ReadOther pieces bytes) ++ changed_deeds into.profile number path left

  abbrev pub rest_deeds : Rest → List Deed
  rest_deeds rest = Informed (Held path (begin_of into.piece_size entry.len first)) ∷ tail_deeds rest

  -- the rest of a file may go so
  abbrev pub MayRest : Rest → Type 0
  MayRest (RestWhole pieces finishing) = MayRead into.piece_size entry.len first (ReadAll pieces) × MayFinish finishing
  MayRest (RestPart pieces stop dropping) =
      MayRead into.piece_size entry.len first (ReadPart pieces stop) × MayDrop dropping
  MayRest (RestOther pieces bytes left) =
      MayRead into.piece_size entry.len first (ReadOther pieces bytes) × (is_left left ≡ true)

  abbrev pub uploaded_of_rest : Rest → Uploaded
  uploaded_of_rest (RestWhole pieces finishing) =
      uploaded_of_finishing number (hash into.hash (joined pieces)) finishing
  uploaded_of_rest _ = uploadeds.Skipped

  -- these are the deeds of reading, sending and ending a file, whatever was replied
  abbrev pub AreRest : List Deed → Type 0
  AreRest whole = (rest : Rest) × MayRest rest × (whole ≡ rest_deeds rest)

  -- the file was read, sent from the piece `first` on, and ended
  pub record SendsRest {T C W : Type 0} (does : Upload T C W → Deed → Upload T C W → Type 0) (uploaded : Uploaded)
      (old new : Upload T C W) : Type 0 where
    pub rest : Rest
    pub may_rest : MayRest rest
    pub happened : GoesOver does old (rest_deeds rest) new
    pub uploaded_is : uploaded ≡ uploaded_of_rest rest

-- ---- a file that was finished before

module _ (into : Destination) (path : List ℕ) (entry : FolderEntry) (number : ℕ) (found : Reply) where
  -- these are the deeds of ending a file that was finished before
  abbrev pub AreHeld : List Deed → Type 0
  AreHeld whole =
      (holding : Holding) × MayHold into entry holding × (whole ≡ holding_deeds into path entry number found holding)

  -- a file that was finished before was ended: kept as it is, or read again
  pub record EndsHeld {T C W : Type 0} (does : Upload T C W → Deed → Upload T C W → Type 0) (uploaded : Uploaded)
      (old new : Upload T C W) : Type 0 where
    pub holding : Holding
    pub may_hold : MayHold into entry holding
    pub happened : GoesOver does old (holding_deeds into path entry number found holding) new
    pub uploaded_is : uploaded ≡ uploaded_of_holding into entry number found holding

-- ---- adding a file

-- what the reply to the first Finish says
abbrev pub IsNodeState : Reply → NodeState → Type 0
IsNodeState reply states.Finished = is_finished reply ≡ true
IsNodeState reply states.Gone = reply ≡ replies.Refused refusals.NoSuchNode
IsNodeState reply (states.Lacks first) = reply ≡ replies.Refused (refusals.Incomplete first)

-- so it is after the file was added under this attempt, with this number
abbrev pub AfterAdd : {T C W : Type 0} → (Upload T C W → Deed → Upload T C W → Type 0) → Destination → FolderEntry → ℕ
    → ℕ → (Upload T C W → Upload T C W → Type 0) → Upload T C W → Upload T C W → Type 0
AfterAdd {T} {C} {W} does into entry attempt number Is old new =
    (first : Upload T C W) → does first (Called (Answered attempt (file_request into entry) (replies.Node number))) old
    → Is first new

-- how a file ended that has nothing to send: refused, or finished before
pub data Opening : Type 0 where
  Declined : (refusal : Refusal) → Opening
  Found : (number : ℕ) (found : Reply) (holding : Holding) → Opening

-- the refusal skips the file; or the reply says that it is finished
abbrev pub MayOpen : Destination → FolderEntry → Opening → Type 0
MayOpen into entry (Declined refusal) = skips refusal ≡ true
MayOpen into entry (Found number found holding) = (is_finished found ≡ true) × MayHold into entry holding

module _ (into : Destination) (path : List ℕ) (entry : FolderEntry) where
  -- what is done in an attempt that ends with nothing to send
  abbrev pub opening_deeds : ℕ → Opening → List Deed
  opening_deeds attempt (Declined refusal) =
      Called (Answered attempt (file_request into entry) (replies.Refused refusal))
      ∷ Informed (Left path (reasons.Refused refusal)) ∷ []
  opening_deeds attempt (Found number found holding) =
      Called (Answered attempt (file_request into entry) (replies.Node number))
      ∷ Called (Answered 0 (Finish into.profile number) found) ∷ holding_deeds into path entry number found holding

  -- the service lacks the piece `first`
  abbrev pub missing_deeds : ℕ → ℕ → ℕ → List Deed
  missing_deeds attempt number first =
      Called (Answered attempt (file_request into entry) (replies.Node number))
      ∷ Called (Answered 0 (Finish into.profile number) (replies.Refused (refusals.Incomplete first))) ∷ []

  abbrev pub uploaded_of_opening : Opening → Uploaded
  uploaded_of_opening (Declined refusal) = uploadeds.Skipped
  uploaded_of_opening (Found number found holding) = uploaded_of_holding into entry number found holding

  -- one attempt ended with nothing to send
  abbrev pub AreOpening : ℕ → List Deed → Type 0
  AreOpening attempt whole = (opening : Opening) × MayOpen into entry opening × (whole ≡ opening_deeds attempt opening)

  -- an attempt did, after others
  abbrev pub AreOpenings : List Deed → Type 0
  AreOpenings whole =
      (gone : List ℕ) × (opening : Opening) × MayOpen into entry opening
      × (whole ≡ gone_deeds into entry 0 gone ++ opening_deeds (length gone) opening)

  module _ {T C W : Type 0} (does : Upload T C W → Deed → Upload T C W → Type 0) where
    -- an attempt ended with nothing to send
    pub record EndsOpening (attempt : ℕ) (uploaded : Uploaded) (old new : Upload T C W) : Type 0 where
      pub opening : Opening
      pub may_open : MayOpen into entry opening
      pub happened : GoesOver does old (opening_deeds attempt opening) new
      pub uploaded_is : uploaded ≡ uploaded_of_opening opening

    -- an attempt found that the node was abandoned before
    pub record FindsGone (attempt : ℕ) (old new : Upload T C W) : Type 0 where
      pub number : ℕ
      pub happened : GoesOver does old (gone_deeds into entry attempt (number ∷ [])) new

    -- the outcome of one attempt to add the file
    abbrev pub OpensNode : ℕ → Option Opened → Upload T C W → Upload T C W → Type 0
    OpensNode attempt None old new = FindsGone attempt old new
    OpensNode attempt (Some (openeds.Ended uploaded)) old new = EndsOpening attempt uploaded old new
    OpensNode attempt (Some (openeds.Begun number first)) old new =
        (is_countable into.piece_size entry.len ≡ true) × GoesOver does old (missing_deeds attempt number first) new

    -- some attempts found abandoned nodes, and the next ended with nothing to send
    pub record EndsOpenings (uploaded : Uploaded) (old new : Upload T C W) : Type 0 where
      pub gone : List ℕ
      pub opening : Opening
      pub may_open : MayOpen into entry opening
      pub happened : GoesOver does old (gone_deeds into entry 0 gone ++ opening_deeds (length gone) opening) new
      pub uploaded_is : uploaded ≡ uploaded_of_opening opening

    -- some attempts found abandoned nodes, and the next a node that lacks a piece
    pub record LacksPiece (number first : ℕ) (old new : Upload T C W) : Type 0 where
      pub gone : List ℕ
      pub countable : is_countable into.piece_size entry.len ≡ true
      pub happened : GoesOver does old (gone_deeds into entry 0 gone ++ missing_deeds (length gone) number first) new

    -- the outcome of adding the file
    abbrev pub OpensFile : Opened → Upload T C W → Upload T C W → Type 0
    OpensFile (openeds.Ended uploaded) old new = EndsOpenings uploaded old new
    OpensFile (openeds.Begun number first) old new = LacksPiece number first old new

-- ---- adding and sending a file

-- the end of an empty file could not be seen
pub record StopsEmpty (path : List ℕ) (entry : FolderEntry) {T C W : Type 0}
    (does : Upload T C W → Deed → Upload T C W → Type 0) (why : Skipped) (old new : Upload T C W) : Type 0 where
  pub empty : entry.len ≡ 0
  pub stops : StopsAt (Sees does) IsPastEnd path entry 0 why old new

-- the outcome of a file that was added
pub data Addition : Type 0 where
  NothingSent : (gone : List ℕ) (opening : Opening) → Addition
  SentRest : (gone : List ℕ) (number first : ℕ) (rest : Rest) → Addition

-- the outcome of the file
abbrev pub outcome_of_addition : Addition → FileOutcome
outcome_of_addition (NothingSent gone (Declined refusal)) = RefusedFile gone refusal
outcome_of_addition (NothingSent gone (Found number found holding)) = HeldFile gone number found holding
outcome_of_addition (SentRest gone number first rest) = outcome_of gone number first rest

module _ (into : Destination) (path : List ℕ) (entry : FolderEntry) where
  abbrev pub addition_deeds : Addition → List Deed
  addition_deeds (NothingSent gone opening) =
      gone_deeds into entry 0 gone ++ opening_deeds into path entry (length gone) opening
  addition_deeds (SentRest gone number first rest) =
      (gone_deeds into entry 0 gone ++ missing_deeds into path entry (length gone) number first)
      ++ rest_deeds into path entry number first rest

  abbrev pub MayAdd : Addition → Type 0
  MayAdd (NothingSent gone opening) = MayOpen into entry opening
  MayAdd (SentRest gone number first rest) = MayRest into path entry number first rest

  abbrev pub uploaded_of_addition : Addition → Uploaded
  uploaded_of_addition (NothingSent gone opening) = uploaded_of_opening into path entry opening
  uploaded_of_addition (SentRest gone number first rest) = uploaded_of_rest into path entry number first rest

  -- these are the deeds of adding, sending and ending a file, whatever was replied
  abbrev pub AreAdded : List Deed → Type 0
  AreAdded whole = (addition : Addition) × MayAdd addition × (whole ≡ addition_deeds addition)

  -- the file was added, sent as far as the service lacks it, and ended
  pub record Adds {T C W : Type 0} (does : Upload T C W → Deed → Upload T C W → Type 0) (uploaded : Uploaded)
      (old new : Upload T C W) : Type 0 where
    pub addition : Addition
    pub may_add : MayAdd addition
    pub happened : GoesOver does old (addition_deeds addition) new
    pub uploaded_is : uploaded ≡ uploaded_of_addition addition
