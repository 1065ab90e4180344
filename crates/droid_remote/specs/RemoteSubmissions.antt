-- A tree that is submitted over a connection (this project's own).
use Rattle.std.specs.Prelude.{◌≡◌, true, false, [], Option, None, Some}
use Rattle.droid_tree.specs.Heard.{Heard}
use Rattle.droid_tree.specs.Observation.{Observation}
use Rattle.droid_remote.specs.Events.{Event}
use Rattle.droid_remote.specs.declared.transfer.transfer_fault.TransferFault.{TransferFault}
use Rattle.droid_upload.specs.Submissions.{AreOfFront, SubmitsTree, deeds_of_tree}
use Rattle.droid_upload.specs.declared.tree_submission.Options.{Options}
use Rattle.droid_upload.specs.declared.tree_submission.Submitted.{Submitted}
use Rattle.droid_upload.specs.Deeds.{Does}
use Rattle.droid_upload.specs.Fronts.{EndsEarly}
use Rattle.droid_upload.specs.declared.submission_fault.SubmissionFault.{SubmissionFault}
use Rattle.droid_upload.specs.declared.submission_fault.SubmissionFault.TheVariants.{Ended}
use Rattle.droid_upload.specs.declared.upload.Upload.{Upload}
use Rattle.droid_remote.specs.Conversations.{Converses}
use Rattle.droid_remote.specs.SenderCalls.{CallsSender, FailsToSettle, IsFresh}
use Rattle.droid_remote.specs.declared.remote_fault.RemoteFault.{RemoteFault}
use Rattle.droid_remote.specs.declared.remote_fault.RemoteFault.TheVariants.{Walking, Sending}
use Rattle.droid_remote.specs.declared.sender.Sender.{Sender}

-- if no reply came, the sender says why
abbrev pub remote_fault_of : Option TransferFault → SubmissionFault → RemoteFault
remote_fault_of (Some stop) Ended = Sending stop
remote_fault_of _ fault = Walking fault

module _ {T C W : Type 0} (observes : T → Observation → T → Type 0) (does : C → Event → C → Type 0)
    (hears : W → Heard → W → Type 0) (options : Options) where
  -- The tree was submitted, and then the replies to the pieces in flight were read. By a fresh sender each frame that
  -- was written is that of a call among the deeds, and each call is done.
  pub record Submits (submitted : Submitted) (old new : Upload T (Sender C) W) : Type 0 where
    pub reached : Upload T (Sender C) W
    pub tree : SubmitsTree (Does observes (CallsSender does) hears) options submitted old reached
    pub only_client : new ≡ record reached { client = new.client }
    pub none : new.client.in_flight.waiting.items ≡ []
    pub going : new.client.stopped ≡ None
    pub converses : IsFresh old.client
        → Converses old.client.client old.client.name does true (deeds_of_tree options submitted.profile tree.visits)
        old.client.in_flight new.client.in_flight

  -- a submission ended early
  pub data EndsSubmission (fault : RemoteFault) (old new : Upload T (Sender C) W) : Type 0 where
    -- the walk did
    InWalk : (why : SubmissionFault)
        (early : EndsEarly (Does observes (CallsSender does) hears) (AreOfFront options) why old new)
        → fault ≡ remote_fault_of new.client.stopped why
        → (IsFresh old.client
        → Converses old.client.client old.client.name does false early.deeds old.client.in_flight new.client.in_flight)
        → EndsSubmission fault old new
    -- the walk came to its end, but not all replies to the pieces in flight came
    AtEnd : (submitted : Submitted) (reached : Upload T (Sender C) W)
        (tree : SubmitsTree (Does observes (CallsSender does) hears) options submitted old reached)
        → new ≡ record reached { client = new.client }
        → (why : TransferFault) → FailsToSettle does why reached.client new.client → fault ≡ Sending why
        → (IsFresh old.client
        → Converses old.client.client old.client.name does false (deeds_of_tree options submitted.profile tree.visits)
        old.client.in_flight new.client.in_flight)
        → EndsSubmission fault old new
