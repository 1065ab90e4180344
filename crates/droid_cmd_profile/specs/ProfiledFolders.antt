-- The profile of a tree, with what was skipped (this project's own).
use Rattle.std.specs.Prelude.{◌≡◌, ℕ, Bool, List, Option, Some, None, Result, Ok, Err}
use Rattle.droid_frame.specs.Seen.{IsSound}
use Rattle.droid_frame.specs.declared.io.stream_record.Seen.{Seen}
use Rattle.droid_tree.specs.Heard.{Heard}
use Rattle.droid_tree.specs.Observation.{Observation}
use Rattle.droid_profile.specs.declared.profiler.Profiler.{Profiler}
use Rattle.droid_profile.specs.Texts.{csv_text}
use Rattle.droid_profile.specs.WrittenTrees.{EndsWriting, ReportsCsv, ReportsList, WritesTree, heard_in}
use Rattle.droid_profile.specs.declared.csv_fault.CsvFault.{CsvFault}
use Rattle.droid_profile.specs.declared.csv_recipient.CsvRecipient.{CsvRecipient}
use Rattle.droid_profile.specs.declared.options.Options.{Options}
use Rattle.droid_cmd_profile.specs.ProfileEndings.{ending_of}
use Rattle.droid_cmd_profile.specs.SkippedFiles.{HasLines, Notes}
use Rattle.droid_cmd_profile.specs.declared.profile_ending.ProfileEnding.{ProfileEnding}
use Rattle.droid_cmd_profile.specs.declared.skipped_file.SkippedFault.{SkippedFault}
use Rattle.droid_cmd_profile.specs.declared.skipped_file.SkippedFile.{SkippedFile}
use Rattle.droid_cmd_profile.specs.declared.skipped_writer.SkippedWriter.{SkippedWriter}

-- the fault of the file for what was skipped, if there is such a file and it has one
abbrev pub fault_in : {S : Type 0} → Option (SkippedFile S) → Option SkippedFault
fault_in None = None
fault_in (Some file) = file.fault

module _ {T W S O M : Type 0} (observes : T → Observation → T → Type 0) (hears : W → Heard → W → Type 0)
    (skipped_contents : S → Option (List ℕ)) (skipped_seen : S → Seen) (skipped_room : S → Option ℕ)
    (csv_contents : O → Option (List ℕ)) (csv_seen : O → Seen) (csv_room : O → Option ℕ)
    (list_contents : M → Option (List ℕ)) (list_seen : M → Seen) (list_room : M → Option ℕ) (options : Options) where
  abbrev Made : Type 0
  Made = Profiler T (SkippedWriter W S) (CsvRecipient O M)

  abbrev Hears : SkippedWriter W S → Heard → SkippedWriter W S → Type 0
  Hears = Notes skipped_contents skipped_seen skipped_room hears

  -- the tree was profiled and written, and the lines of what was skipped were written
  pub record WritesFolder (whole : Bool) (old new : Made) : Type 0 where
    pub tree : WritesTree observes Hears list_contents old.recipient.registry.now options whole old.tree new.tree
        old.watcher new.watcher
        (csv_contents old.recipient.csv) (csv_contents new.recipient.csv) old.recipient.manifest new.recipient.manifest
    pub lines : HasLines skipped_contents skipped_seen skipped_room old.watcher.file new.watcher.file
        tree.profiled.heard

  -- it ended early, and the lines of what was skipped up to there were written
  pub record EndsFolder (fault : CsvFault) (old new : Made) : Type 0 where
    pub tree : EndsWriting observes Hears list_contents old.recipient.registry.now options fault old.tree new.tree
        old.watcher new.watcher
        (csv_contents old.recipient.csv) (csv_contents new.recipient.csv) old.recipient.manifest new.recipient.manifest
    pub lines : HasLines skipped_contents skipped_seen skipped_room old.watcher.file new.watcher.file (heard_in tree)

  abbrev pub EndsBy : Result Bool CsvFault → Made → Made → Type 0
  EndsBy (Ok whole) old new = WritesFolder whole old new
  EndsBy (Err fault) old new = EndsFolder fault old new

  -- What the profile of a tree comes to: by what the walk returned, and by the fault of the file for what was skipped.
  -- Each writer of the CSV and of the list that stopped is reported.
  pub record ProfilesFolder (ending : ProfileEnding) (old new : Made) : Type 0 where
    pub ended : Result Bool CsvFault
    pub ends : EndsBy ended old new
    pub ending_is : ending ≡ ending_of ended (fault_in new.watcher.file)
    pub csv_stopped : IsSound (csv_seen old.recipient.csv)
        → ReportsCsv (csv_seen old.recipient.csv) (csv_seen new.recipient.csv) (csv_room new.recipient.csv) ended
    pub list_stopped : ReportsList list_seen list_room old.recipient.manifest new.recipient.manifest ended

  -- the tree was profiled and written, and this text is its CSV
  pub record KeepsTree (old new : Made) (text : List ℕ) : Type 0 where
    pub whole : Bool
    pub folder : WritesFolder whole old new
    pub is_csv : text ≡ csv_text old.recipient.registry.now options folder.tree.shown
