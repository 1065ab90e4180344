-- How far a profile is.
use Rattle.std.specs.Prelude.{◌≡◌, ◌+◌, ◌≤◌, Bool, List, length, map, filter}
use Rattle.std.specs.List.{count_by, list_all}
use Rattle.droid_frame.specs.declared.record.Record.{Record}
use Rattle.droid_pronom.specs.Registry.{Contents}
use Rattle.droid_tree.specs.Heard.{Heard}
use Rattle.droid_tree.specs.Observation.{Observation, GoesOver}
use Rattle.droid_profile.specs.Calls.{Call, heard_of_calls, observation_of}
use Rattle.droid_profile.specs.EarlyEnds.{is_of_record}
use Rattle.droid_profile.specs.Profiles.{is_of_bytes, is_of_entry}
use Rattle.droid_profile.specs.declared.options.Options.{Options}
use Rattle.droid_profile.specs.declared.lanes.file_row.FileRow.{FileRow}
use Rattle.droid_profile.specs.RowsTaken.{is_counted_row, is_kept}
use Rattle.droid_profile.specs.ScanFits.{ScanFits}
use Rattle.droid_profile.specs.declared.walk.row.Row.{Row}
use Rattle.droid_profile.specs.declared.walk.scan.Scan.{Scan}

-- All that was taken was read and handed out, but for these rows and these files, which are few.
pub record StandsAt {T W R : Type 0} (observes : T → Observation → T → Type 0) (hears : W → Heard → W → Type 0)
    (takes : R → Record → R → Type 0) (registry : Contents) (options : Options) (whole : Bool) (scan : Scan)
    (rows : List Row) (files : List FileRow)
    (tree tree_now : T) (watcher watcher_now : W) (recipient recipient_now : R) : Type 0 where
  pub calls : List Call
  pub heard : List Heard
  pub given : List Record
  pub fits : ScanFits registry options calls (filter is_of_entry heard) given scan rows files
  pub bytes : filter is_of_bytes heard ≡ heard_of_calls calls
  pub whole_is : whole ≡ list_all is_kept (filter is_of_entry heard)
  pub observed : GoesOver observes tree (map observation_of calls) tree_now
  pub informed : GoesOver hears watcher heard watcher_now
  pub taken : GoesOver takes recipient given recipient_now
  pub reported : count_by is_of_record heard ≡ length given
  pub few_rows : count_by is_counted_row rows ≤ 8192
  pub few_numbers : scan.number ≤ length (filter is_of_entry heard) + 8192
