-- What is handed out of rows.
use Rattle.std.specs.Prelude.{◌≡◌, ◌⊎◌, ℕ, Bool, List, Some, length, slice_get}
use Rattle.std.specs.List.{count_by, list_all}
use Rattle.droid_frame.specs.declared.record.Record.{Record}
use Rattle.droid_pronom.specs.Registry.{Contents}
use Rattle.droid_tree.specs.Heard.{Heard}
use Rattle.droid_tree.specs.Observation.{GoesOver}
use Rattle.droid_profile.specs.EarlyEnds.{AreFirst, TakesFirst, is_of_record}
use Rattle.droid_profile.specs.declared.fault.ProfileFault.{ProfileFault}
use Rattle.droid_profile.specs.declared.fault.ProfileFault.TheVariants as faults
use Rattle.droid_profile.specs.declared.options.Options.{Options}
use Rattle.droid_profile.specs.declared.recipient.RecipientFault.{RecipientFault}
use Rattle.droid_profile.specs.FilesRead.{IsSettled}
use Rattle.droid_profile.specs.declared.lanes.file_row.FileRow.{FileRow}
use Rattle.droid_profile.specs.RowsTaken.{Readings, is_kept, reading_of}

-- this file was read like this from its first byte to its end
pub record WasRead (registry : Contents) (options : Options) (readings : Readings) (first : List FileRow) (place : ℕ)
    (row : FileRow) : Type 0 where
  pub was : FileRow
  pub there : slice_get first place ≡ Some was
  pub settled : IsSettled registry options was row (reading_of readings was) row.state

-- these files were those at first, and each was read like this
pub record AreSettled (registry : Contents) (options : Options) (readings : Readings) (first files : List FileRow)
    : Type 0 where
  pub each : (place : ℕ) (row : FileRow) → slice_get files place ≡ Some row
      → WasRead registry options readings first place row

-- The watcher was informed of all of this, and the recipient took all these records. `kept` says whether nothing was
-- skipped, symbolic links aside.
pub record Hands {W R : Type 0} (hears : W → Heard → W → Type 0) (takes : R → Record → R → Type 0)
    (entries : List Heard) (records : List Record) (kept : Bool) (watcher watcher_after : W)
    (recipient recipient_after : R) : Type 0 where
  pub informed : GoesOver hears watcher entries watcher_after
  pub taken : GoesOver takes recipient records recipient_after
  pub kept_is : kept ≡ list_all is_kept entries

-- The handing out ended early: memory ran out, or the recipient did not take a record. The watcher was informed of the
-- first of this, and the recipient took the first of these records: as many as were reported.
pub record HandsFront {W R : Type 0} (hears : W → Heard → W → Type 0) (takes : R → Record → R → Type 0)
    (fails : R → Record → RecipientFault → R → Type 0) (entries : List Heard) (records : List Record)
    (fault : ProfileFault) (watcher watcher_after : W) (recipient recipient_after : R) : Type 0 where
  pub heard : List Heard
  pub are_first : AreFirst heard entries
  pub informed : GoesOver hears watcher heard watcher_after
  pub given : List Record
  pub taken : TakesFirst takes fails fault records given recipient recipient_after
  pub reported : count_by is_of_record heard ≡ length given
  pub explained : (fault ≡ faults.Memory) ⊎ ((why : RecipientFault) × (fault ≡ faults.Recipient why))
