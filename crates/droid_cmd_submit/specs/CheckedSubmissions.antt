-- A tree that is counted, submitted, and compared with its profile (this project's own).
use Rattle.std.specs.Prelude.{◌≡◌, ℕ, ◌+◌, ◌≤◌, true, length}
use Rattle.droid_tree.specs.Counts.{CountsTooMany, CountsTree}
use Rattle.droid_tree.specs.Heard.{Heard}
use Rattle.droid_tree.specs.Observation.{Observation}
use Rattle.droid_tree.specs.declared.fault.WalkFault.{WalkFault}
use Rattle.droid_tree.specs.declared.fault.WalkFault.TheVariants.{Entries}
use Rattle.droid_tree.specs.declared.tree_size.Counted.{Counted}
use Rattle.droid_remote.specs.Calls.{Wherever}
use Rattle.droid_remote.specs.Events.{Event}
use Rattle.droid_remote.specs.RemoteSubmissions.{EndsSubmission, Submits}
use Rattle.droid_remote.specs.declared.remote_fault.RemoteFault.{RemoteFault}
use Rattle.droid_remote.specs.declared.sender.Sender.{Sender}
use Rattle.droid_upload.specs.declared.tree_submission.Options.{Options}
use Rattle.droid_upload.specs.declared.tree_submission.Submitted.{Submitted}
use Rattle.droid_upload.specs.declared.upload.Upload.{Upload}
use Rattle.droid_cmd_submit.specs.ProfileComparisons.{Compares, EndsChecking, ReadsExport}
use Rattle.droid_terminal.specs.SkippedPaths.{Records}
use Rattle.droid_cmd_submit.specs.declared.checked_submission.CommandFault.{CommandFault}
use Rattle.droid_cmd_submit.specs.declared.checked_submission.CommandFault.TheVariants.{Uncounted, Unsubmitted}
use Rattle.droid_cmd_submit.specs.declared.checked_submission.CommandFault.TheVariants.{Uncompared}
use Rattle.droid_cmd_submit.specs.declared.profile_comparison.Compared.{Compared}
use Rattle.droid_cmd_submit.specs.declared.profile_comparison.ComparisonFault.{ComparisonFault}
use Rattle.droid_terminal.specs.declared.skipped.recorder.Recorder.{Recorder}

module _ {T C W : Type 0} (observes : T → Observation → T → Type 0) (does : C → Event → C → Type 0)
    (expects : W → Counted → W → Type 0) (hears : W → Heard → W → Type 0) (options : Options) (limit : ℕ) where
  -- the tree was counted, and has no more folders and files than the limit; the watcher learned how much there is
  pub record IsCounted (old begun : Upload T (Sender C) (Recorder W)) : Type 0 where
    pub counted : Counted
    pub counts : CountsTree observes counted old.tree begun.tree
    pub within : counted.folders + counted.files ≤ limit
    pub expected : expects old.watcher.watcher counted begun.watcher.watcher
    pub only : begun
        ≡ record old { tree = begun.tree; watcher = record old.watcher { watcher = begun.watcher.watcher } }

  -- The tree was counted and submitted, and the watcher kept all that was skipped. Then the CSV of the profile was read
  -- and compared with exactly what was submitted.
  pub record ChecksTree (compared : Compared) (old new : Upload T (Sender C) (Recorder W)) : Type 0 where
    pub begun : Upload T (Sender C) (Recorder W)
    pub reached : Upload T (Sender C) (Recorder W)
    pub submitted : Submitted
    pub counted : IsCounted old begun
    pub submits : Submits observes does (Records hears) options submitted begun reached
    pub only_client : new ≡ record reached { client = new.client }
    pub kept : reached.watcher.has_all ≡ true
    pub reads : Wherever reached.client.in_flight (λ known facts.
        ReadsExport does reached.client.client reached.client.name submitted.profile known facts
        reached.client.in_flight new.client.in_flight compared.csv.items)
    -- whatever the service sent
    pub bounded : length compared.csv.items ≤ 1073741824
    pub compares : Compares reached.watcher.skipped.items submitted options.hash compared.csv.items compared

  -- how it ends early
  pub data EndsCommand (fault : CommandFault) (old new : Upload T (Sender C) (Recorder W)) : Type 0 where
    -- the tree could not be counted: nothing was sent or reported
    NotCounted : (why : WalkFault) → fault ≡ Uncounted why → new ≡ record old { tree = new.tree }
        → (why ≡ Entries → CountsTooMany observes limit old.tree new.tree) → EndsCommand fault old new
    -- the submission ended early
    NotSubmitted : (why : RemoteFault) → fault ≡ Unsubmitted why → (begun : Upload T (Sender C) (Recorder W))
        → IsCounted old begun → EndsSubmission observes does (Records hears) options why begun new
        → EndsCommand fault old new
    -- the tree was submitted, but the profile could not be compared with it, for a reason that the events or the CSV
    -- show
    NotCompared : (why : ComparisonFault) (submitted : Submitted) → fault ≡ Uncompared submitted.profile why
        → (begun reached : Upload T (Sender C) (Recorder W)) → IsCounted old begun
        → Submits observes does (Records hears) options submitted begun reached
        → new ≡ record reached { client = new.client }
        → Wherever reached.client.in_flight (λ known facts.
        EndsChecking does reached.client.client reached.client.name submitted.profile known options.hash why facts
        reached.client.in_flight new.client.in_flight)
        → EndsCommand fault old new
