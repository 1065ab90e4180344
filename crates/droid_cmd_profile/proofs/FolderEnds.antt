-- How the profile of a tree ends, with what was skipped.
use Rattle.std.proofs.Common.{ℕ, Bool, List, Option, Result, Ok, Err}
use Rattle.std.specs.Prelude.{IfErr, IfOk}
use Rattle.droid_frame.specs.declared.io.stream_record.Seen.{Seen}
use Rattle.droid_pronom.specs.Registry.{Contents}
use Rattle.droid_tree.specs.Heard.{Heard}
use Rattle.droid_tree.specs.Observation.{GoesOver, Observation}
use Rattle.droid_profile.specs.WrittenTrees.{After, Before, During, EndsWriting, WritesTree, heard_in}
use Rattle.droid_profile.specs.declared.csv_fault.CsvFault.{CsvFault}
use Rattle.droid_profile.specs.declared.csv_recipient.CsvRecipient.{CsvRecipient}
use Rattle.droid_profile.specs.declared.profiler.Profiler.{Profiler}
use Rattle.droid_profile.specs.declared.options.Options.{Options}
use Rattle.droid_cmd_profile.specs.ProfiledFolders.{EndsBy}
use Rattle.droid_cmd_profile.specs.SkippedFiles.{Notes}
use Rattle.droid_cmd_profile.specs.declared.skipped_writer.SkippedWriter.{SkippedWriter}
use Rattle.droid_cmd_profile.proofs.SkippedLines.{lines_noted}

-- what a watcher learned of a profile that ended early
module _ {T W M : Type 0} (observes : T → Observation → T → Type 0) (hears : W → Heard → W → Type 0) (list_contents : M → Option (List ℕ)) (registry : Contents) (options : Options) (fault : CsvFault)
    (tree tree_after : T) (watcher watcher_after : W) (csv csv_after : Option (List ℕ)) (manifest manifest_after : Option M) where
  learned : (ends : EndsWriting observes hears list_contents registry options fault tree tree_after watcher watcher_after csv csv_after manifest manifest_after) → GoesOver hears watcher (heard_in ends) watcher_after
  learned (Before is same_tree same_watcher same_csv same_list) = same_watcher
  learned (During shown why ends explains text list) = ends.informed
  learned (After shown whole profiled is text list) = profiled.informed

module _ {T W S O M : Type 0} (observes : T → Observation → T → Type 0) (hears : W → Heard → W → Type 0)
    (skipped_contents : S → Option (List ℕ)) (skipped_seen : S → Seen) (skipped_room : S → Option ℕ)
    (csv_contents : O → Option (List ℕ)) (csv_seen : O → Seen) (csv_room : O → Option ℕ)
    (list_contents : M → Option (List ℕ)) (list_seen : M → Seen) (list_room : M → Option ℕ) (options : Options) where
  pub ends_by : (ended : Result Bool CsvFault) (old new : Profiler T (SkippedWriter W S) (CsvRecipient O M))
      → IfOk ended (λ whole. WritesTree observes (Notes skipped_contents skipped_seen skipped_room hears) list_contents old.recipient.registry.now options whole old.tree new.tree old.watcher new.watcher
      (csv_contents old.recipient.csv) (csv_contents new.recipient.csv) old.recipient.manifest new.recipient.manifest)
      → IfErr ended (λ fault. EndsWriting observes (Notes skipped_contents skipped_seen skipped_room hears) list_contents old.recipient.registry.now options fault old.tree new.tree old.watcher new.watcher
      (csv_contents old.recipient.csv) (csv_contents new.recipient.csv) old.recipient.manifest new.recipient.manifest)
      → EndsBy observes hears skipped_contents skipped_seen skipped_room csv_contents csv_seen csv_room list_contents list_seen list_room options ended old new
  ends_by (Ok whole) old new written early = record {
    tree = written;
    lines = lines_noted skipped_contents skipped_seen skipped_room hears written.profiled.heard old.watcher new.watcher written.profiled.informed;
  }
  ends_by (Err fault) old new written early =
      let known = learned observes (Notes skipped_contents skipped_seen skipped_room hears) list_contents old.recipient.registry.now options fault old.tree new.tree old.watcher new.watcher
      (csv_contents old.recipient.csv) (csv_contents new.recipient.csv) old.recipient.manifest new.recipient.manifest early in
      record {
        tree = early;
        lines = lines_noted skipped_contents skipped_seen skipped_room hears (heard_in early) old.watcher new.watcher known;
      }
