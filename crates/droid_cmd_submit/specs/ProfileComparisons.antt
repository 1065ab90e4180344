-- A profile that is read and compared with what was submitted (this project's own).
use Rattle.std.specs.Prelude.{◌≡◌, ℕ, ◌+◌, ◌==◌, ◌&&◌, ◌≤◌, Bool, List, [], length, map}
use Rattle.droid_lists.specs.Differences as profiles
use Rattle.droid_lists.specs.TextReading.{IsFaultOf}
use Rattle.droid_lists.specs.declared.known.Difference.{Difference}
use Rattle.droid_lists.specs.declared.spelling.text_fault.TextFault.{TextFault}
use Rattle.droid_lists.specs.declared.spelling.text_fault.TextFault.TheVariants.{Memory, Wrong}
use Rattle.droid_frame.specs.declared.hash_kind.HashKind.{HashKind}
use Rattle.droid_remote.specs.Events.{Event, Fact, facts_after}
use Rattle.droid_remote.specs.Stages.{StandsOn}
use Rattle.droid_remote.specs.declared.transfer.in_flight.InFlight.{InFlight}
use Rattle.droid_remote.specs.declared.transfer.known_requests.KnownRequests.{KnownRequests}
use Rattle.droid_remote.specs.Exports.{Disturbs, EndsExport, Exports}
use Rattle.droid_remote.specs.declared.remote_fault.DownloadFault.{DownloadFault}
use Rattle.droid_remote.specs.declared.remote_fault.DownloadFault.TheVariants.{Long, NoRoom, Sending}
use Rattle.droid_upload.specs.declared.tree_submission.Submitted.{Submitted}
use Rattle.droid_cmd_submit.specs.DifferenceLines.{is_reported, is_suggested}
use Rattle.droid_cmd_submit.specs.KnownNodes.{known_of_nodes, unread_in}
use Rattle.droid_cmd_submit.specs.declared.profile_comparison.Compared.{Compared}
use Rattle.droid_cmd_submit.specs.declared.profile_comparison.ComparisonFault.{ComparisonFault}
use Rattle.droid_cmd_submit.specs.declared.profile_comparison.ComparisonFault.TheVariants.{Disturbed, NoExport, TooLong}
use Rattle.droid_cmd_submit.specs.declared.profile_comparison.ComparisonFault.TheVariants.{Unchecked}
use Rattle.droid_terminal.specs.declared.skipped.skipped_entry.SkippedEntry.{SkippedEntry}

-- nothing was skipped, and there is no difference
abbrev pub is_whole : Bool → List Difference → Bool
is_whole whole differences = whole && (length differences == 0)

module _ {C : Type 0} (does : C → Event → C → Type 0) (client : ℕ) (name : List ℕ) (profile : ℕ)
    (known : KnownRequests) where
  -- this many exports of the profile were begun, and each was not of one piece
  pub data Begun : (count : ℕ) (facts facts_now : List Fact) (old now : InFlight C) → Type 0 where
    NotYet : {facts : List Fact} {old : InFlight C} → Begun 0 facts facts old old
    Again : {count : ℕ} {facts facts_now : List Fact} {old now next : InFlight C} → Begun count facts facts_now old now
        → (disturbs : Disturbs client name profile does known facts_now now next)
        → Begun (count + 1) facts (facts_after facts_now disturbs.asks.goes.events) old next

  -- For proofs: so it stands then.
  pub record HasBegun (count : ℕ) (facts : List Fact) (old now : InFlight C) : Type 0 where
    pub facts_now : List Fact
    pub begun : Begun count facts facts_now old now
    pub none : now.waiting.items ≡ []
    pub stands : StandsOn known facts_now now

  -- the text is the CSV of all records of the profile, in parts of one export
  pub record ReadsExport (facts : List Fact) (old new : InFlight C) (csv : List ℕ) : Type 0 where
    pub count : ℕ
    pub facts_now : List Fact
    pub now : InFlight C
    pub begun : Begun count facts facts_now old now
    pub exports : Exports client name profile does known facts_now now new [] csv

  -- the last export that was begun ended early
  pub record EndsBegun (fault : DownloadFault) (facts : List Fact) (old new : InFlight C) : Type 0 where
    pub count : ℕ
    pub facts_now : List Fact
    pub now : InFlight C
    pub begun : Begun count facts facts_now old now
    pub ends : EndsExport client name profile does fault known facts_now now new

  -- how one export ends early
  abbrev pub EndsOnce : ComparisonFault → List Fact → InFlight C → InFlight C → Type 0
  EndsOnce (NoExport fault) facts old new = EndsExport client name profile does (Sending fault) known facts old new
  EndsOnce (TooLong total) facts old new = EndsExport client name profile does (Long total) known facts old new
  EndsOnce (Unchecked Memory) facts old new = EndsExport client name profile does NoRoom known facts old new
  EndsOnce (Unchecked (Wrong number column)) facts old new = ⊥
  EndsOnce Disturbed facts old new = ⊥

  -- no CSV was read: an export ended early, or none of a hundred was of one piece
  abbrev pub EndsReading : ComparisonFault → List Fact → InFlight C → InFlight C → Type 0
  EndsReading (NoExport fault) facts old new = EndsBegun (Sending fault) facts old new
  EndsReading (TooLong total) facts old new = EndsBegun (Long total) facts old new
  EndsReading (Unchecked Memory) facts old new = EndsBegun NoRoom facts old new
  EndsReading (Unchecked (Wrong number column)) facts old new = ⊥
  EndsReading Disturbed facts old new =
      (count : ℕ) × (facts_now : List Fact) × (100 ≤ count) × Begun count facts facts_now old new

  -- the profile was not compared: no CSV was read, or one that no profile has, or memory ran out
  pub data EndsChecking (hash : HashKind) (why : ComparisonFault) (facts : List Fact) (old new : InFlight C)
      : Type 0 where
    NotRead : EndsReading why facts old new → EndsChecking hash why facts old new
    NotFit : (csv : List ℕ) (fault : TextFault) → ReadsExport facts old new csv → why ≡ Unchecked fault
        → IsFaultOf hash csv fault → EndsChecking hash why facts old new

-- the CSV was read in its one spelling, and compared with exactly what was submitted
pub record Compares (skipped : List SkippedEntry) (submitted : Submitted) (hash : HashKind) (csv : List ℕ)
    (compared : Compared) : Type 0 where
  pub profile : compared.profile ≡ submitted.profile
  pub text : compared.csv.items ≡ csv
  pub known : compared.known.items ≡ known_of_nodes submitted.nodes.items
  pub differs : profiles.Compares hash compared.known.items csv compared.differences.items
  pub reported : compared.reported.items ≡ map (is_reported skipped compared.known.items) compared.differences.items
  pub whole : compared.whole ≡ is_whole submitted.whole compared.differences.items
  pub unread : compared.unread ≡ unread_in submitted.nodes.items
  pub suggested : compared.is_suggested ≡ is_suggested skipped
