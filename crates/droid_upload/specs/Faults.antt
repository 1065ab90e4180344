-- Which replies a submission goes on from, and which fault a call that ends it gives (this project's own).
use Rattle.std.specs.Prelude.{◌≡◌, ◌⊎◌, ℕ, ◌*◌, ◌++◌, ◌∷◌, [], nat_le, Bool, true, false, List, Result, Ok, Err}
use Rattle.droid_frame.specs.declared.refusal.Limit.TheVariants as limits
use Rattle.droid_frame.specs.declared.refusal.Refusal.{Refusal}
use Rattle.droid_frame.specs.declared.refusal.Refusal.TheVariants as refusals
use Rattle.droid_frame.specs.declared.reply.Reply.{Reply}
use Rattle.droid_frame.specs.declared.reply.Reply.TheVariants as replies
use Rattle.droid_frame.specs.declared.request.Request.{Request}
use Rattle.droid_frame.specs.declared.request.Request.TheVariants.{CreateProfile, AddFolder, AddFile, Piece, Finish}
use Rattle.droid_frame.specs.declared.request.Request.TheVariants.{Abandon}
use Rattle.droid_tree.specs.Observation.{Observation}
use Rattle.droid_upload.specs.Calls.{Call, Answered, Sent, Failed}
use Rattle.droid_upload.specs.Deeds.{Deed, Observed, Called}
use Rattle.droid_upload.specs.declared.client_fault.ClientFault.{ClientFault}
use Rattle.droid_upload.specs.declared.client_fault.ClientFault.TheVariants as client_faults
use Rattle.droid_upload.specs.declared.submission_fault.SubmissionFault.{SubmissionFault}
use Rattle.droid_upload.specs.declared.submission_fault.SubmissionFault.TheVariants as faults

-- ---- replies that a submission goes on from

-- a new folder or file that is refused for one of these reasons is skipped; every other refusal ends the submission
abbrev pub skips : Refusal → Bool
skips refusals.BadName = true
skips refusals.PathTooLong = true
skips refusals.TooLarge = true
skips refusals.BadOption = true
skips refusals.NameTaken = true
skips refusals.NumberReused = true
skips (refusals.LimitReached limits.Nodes) = true
skips _ = false

-- the pieces of a file have indexes below 2^32 - 1
abbrev pub is_countable : ℕ → ℕ → Bool
is_countable piece_size size = nat_le size (4294967295 * piece_size)

-- the new node has a number, which is of use, or is refused for a reason that skips it
abbrev pub is_node : Bool → Reply → Bool
is_node of_use (replies.Node number) = of_use
is_node of_use (replies.Refused refusal) = skips refusal
is_node of_use _ = false

-- the profile was made
abbrev pub is_made : Reply → Bool
is_made (replies.Made profile) = true
is_made _ = false

-- the file is finished
abbrev pub is_finished : Reply → Bool
is_finished (replies.Finished method mismatch hash puids) = true
is_finished _ = false

-- an abandoned file stays abandoned, and a finished one stays finished
abbrev pub is_left : Reply → Bool
is_left replies.Abandoned = true
is_left (replies.Refused refusals.NoSuchNode) = true
is_left (replies.Refused refusals.AlreadyFinished) = true
is_left _ = false

-- a submission goes on from this reply to this request
abbrev pub goes_on : Request → Reply → Bool
goes_on (CreateProfile scan_limit match_all hash) reply = is_made reply
goes_on (AddFolder profile parent modified name) reply = is_node true reply
goes_on (AddFile profile parent modified size piece_size name) reply = is_node (is_countable piece_size size) reply
goes_on (Finish profile file) reply = is_finished reply
goes_on (Abandon profile file) reply = is_left reply
goes_on _ reply = false

-- a file that was just added was abandoned before, or lacks a piece: the Finish that follows its AddFile says so
abbrev pub is_open : Reply → Bool
is_open (replies.Refused refusals.NoSuchNode) = true
is_open (replies.Refused (refusals.Incomplete missing)) = true
is_open _ = false

-- a Finish that says that the file is to be sent
abbrev pub asks_for_more : Request → Reply → Bool
asks_for_more (Finish profile file) reply = is_open reply
asks_for_more _ reply = false

-- the outcome of a new folder or file, as the reply: its number, or a refusal that skips it
abbrev pub reply_of_node : Result ℕ Refusal → Reply
reply_of_node (Ok number) = replies.Node number
reply_of_node (Err refusal) = replies.Refused refusal

-- ---- faults

-- of a refusal: being out of memory there is being out of memory
abbrev pub fault_of_refusal : Refusal → SubmissionFault
fault_of_refusal refusals.Memory = faults.Memory
fault_of_refusal refusal = faults.Refused refusal

-- of a reply that does not fit: a refusal, or another kind
abbrev pub fault_of_reply : Reply → SubmissionFault
fault_of_reply (replies.Refused refusal) = fault_of_refusal refusal
fault_of_reply _ = faults.Reply

-- of a client that has no reply
abbrev pub fault_of_client : ClientFault → SubmissionFault
fault_of_client (client_faults.Piece refusal) = fault_of_refusal refusal
fault_of_client client_faults.Ended = faults.Ended

-- of a call that ended the submission
abbrev pub fault_of_call : Call → SubmissionFault
fault_of_call (Answered attempt request reply) = fault_of_reply reply
fault_of_call (Sent request) = faults.Reply
fault_of_call (Failed attempt request fault) = fault_of_client fault

-- ---- calls that end a submission

-- the last deed was a read
abbrev pub IsAfterRead : List Deed → Type 0
IsAfterRead before =
    (earlier : List Deed) × (observation : Observation) × (before ≡ earlier ++ Observed observation ∷ [])

-- the last deed was a call
abbrev pub IsAfterCall : List Deed → Type 0
IsAfterCall before = (earlier : List Deed) × (call : Call) × (before ≡ earlier ++ Called call ∷ [])

-- the last deed was the last attempt to add a file, which has number 2^32 - 2
abbrev pub IsAfterLastAttempt : List Deed → Type 0
IsAfterLastAttempt before =
    (earlier : List Deed) × (request : Request) × (reply : Reply)
    × (before ≡ earlier ++ Called (Answered 4294967294 request reply) ∷ [])

-- A piece that was refused with NumberReused ends a submission only if it is not one of the file that is being sent:
-- the call is no Piece, and no Finish or Abandon that follows a read.
abbrev pub MayBeOfOther : List Deed → Request → Type 0
MayBeOfOther before (Piece profile file index bytes) = ⊥
MayBeOfOther before (Finish profile file) = IsAfterCall before
MayBeOfOther before (Abandon profile file) = IsAfterCall before
MayBeOfOther before _ = Unit {0}

-- A submission may end by this call, after these deeds. The Finish that follows an AddFile does not end it by saying
-- that the file is open, except at the last attempt.
abbrev pub IsEnd : List Deed → Call → Type 0
IsEnd before (Answered attempt request reply) =
    (goes_on request reply ≡ false)
    × (asks_for_more request reply ≡ true → IsAfterRead before ⊎ IsAfterLastAttempt before)
IsEnd before (Sent request) = ⊥
IsEnd before (Failed attempt request fault) =
    fault ≡ client_faults.Piece refusals.NumberReused → MayBeOfOther before request
