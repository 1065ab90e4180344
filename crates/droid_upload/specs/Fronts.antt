-- What stands after a run that ended early (this project's own).
use Rattle.std.specs.Prelude.{◌≡◌, ◌⊎◌, ℕ, ◌≤◌, Bool, true, false, count_by, List, [], ◌∷◌, ◌++◌}
use Rattle.droid_frame.specs.Bodies.{Fits}
use Rattle.droid_frame.specs.declared.reply.Reply.{Reply}
use Rattle.droid_frame.specs.declared.request.Request.{Request}
use Rattle.droid_tree.specs.Observation.{Listed, Unlisted, GoesOver}
use Rattle.droid_upload.specs.Calls.{Call, Answered, Failed, SameRequest, request_of}
use Rattle.droid_upload.specs.Deeds.{Deed, Observed, Called}
use Rattle.droid_upload.specs.Faults.{IsEnd, fault_of_call, fault_of_client}
use Rattle.droid_upload.specs.declared.client_fault.ClientFault.{ClientFault}
use Rattle.droid_upload.specs.declared.submission_fault.SubmissionFault.{SubmissionFault}
use Rattle.droid_upload.specs.declared.submission_fault.SubmissionFault.TheVariants as faults
use Rattle.droid_upload.specs.declared.upload.Upload.{Upload}

-- the deeds are the first of a whole; the last of them may be a call that was expected to end otherwise
pub data IsFront (deeds whole : List Deed) : Type 0 where
  Front : (rest : List Deed) → whole ≡ deeds ++ rest → IsFront deeds whole
  Last : (front rest : List Deed) (expected call : Call) → SameRequest expected call
      → whole ≡ front ++ Called expected ∷ rest → deeds ≡ front ++ Called call ∷ [] → IsFront deeds whole

-- a folder was listed, or could not be
abbrev pub is_listing : Deed → Bool
is_listing (Observed (Listed path entries)) = true
is_listing (Observed (Unlisted path)) = true
is_listing _ = false

-- Why a run of these deeds, the first of a whole, ended with this fault: memory ran out; the next call's request is too
-- long for a frame; more folders were listed than a profile can have; or by its last deed, a call that gives this
-- fault. So nothing was asked, read or reported after the fault.
pub data Explains (fault : SubmissionFault) (deeds whole : List Deed) : Type 0 where
  NoMemory : fault ≡ faults.Memory → Explains fault deeds whole
  Long : (call : Call) (rest : List Deed) → fault ≡ faults.TooLong → whole ≡ deeds ++ Called call ∷ rest
      → ¬ (Fits 2 (request_of call)) → Explains fault deeds whole
  ManyFolders : fault ≡ faults.Folders → 100002 ≤ count_by is_listing deeds → Explains fault deeds whole
  ByCall : (before : List Deed) (call : Call) → deeds ≡ before ++ Called call ∷ [] → IsEnd before call
      → fault ≡ fault_of_call call → Explains fault deeds whole

-- the run stands where its deeds led; if memory ran out, nothing is said of the tree's own state
abbrev pub Stands : {T C W : Type 0} → SubmissionFault → Upload T C W → Upload T C W → Type 0
Stands fault reached new = (new ≡ reached) ⊎ ((fault ≡ faults.Memory) × (new ≡ record reached { tree = new.tree }))

-- a run that was to do a whole such as these ended early, with this fault
pub record EndsEarly {T C W : Type 0} (does : Upload T C W → Deed → Upload T C W → Type 0) (Are : List Deed → Type 0)
    (fault : SubmissionFault) (old new : Upload T C W) : Type 0 where
  pub deeds : List Deed
  pub whole : List Deed
  pub reached : Upload T C W
  pub happened : GoesOver does old deeds reached
  pub stands : Stands fault reached new
  pub are : Are whole
  pub front : IsFront deeds whole
  pub explained : Explains fault deeds whole

-- ---- one request

-- exactly these deeds
abbrev pub AreJust : List Deed → List Deed → Type 0
AreJust deeds whole = whole ≡ deeds

-- No reply to a request came: memory ran out before it was sent; it is too long for a frame; or the client says why.
pub data AsksInVain {T C W : Type 0} (does : Upload T C W → Deed → Upload T C W → Type 0) (attempt : ℕ)
    (request : Request) (fault : SubmissionFault) (old new : Upload T C W) : Type 0 where
  Unsent : fault ≡ faults.Memory → new ≡ old → AsksInVain does attempt request fault old new
  Unfit : fault ≡ faults.TooLong → ¬ (Fits 2 request) → new ≡ old → AsksInVain does attempt request fault old new
  Unanswered : (why : ClientFault) → does old (Called (Failed attempt request why)) new → fault ≡ fault_of_client why
      → AsksInVain does attempt request fault old new

-- a request ended a run, whatever reply was expected
abbrev pub EndsAsking : {T C W : Type 0} → (Upload T C W → Deed → Upload T C W → Type 0) → ℕ → Request → SubmissionFault
    → Upload T C W → Upload T C W → Type 0
EndsAsking does attempt request fault old new =
    (expected : Reply) → EndsEarly does (AreJust (Called (Answered attempt request expected) ∷ [])) fault old new
