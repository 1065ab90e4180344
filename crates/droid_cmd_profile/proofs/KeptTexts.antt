-- The text that is kept of a profile that was written.
use Rattle.std.proofs.Common.{◌≡◌, ◌∙◌, ℕ, Bool, true, false, List, [], Option, Some, Result, Ok, Err, sym, ap, subst}
use Rattle.std.specs.Io.KnownBytes.{Appends}
use Rattle.droid_frame.specs.declared.io.stream_record.Seen.{Seen}
use Rattle.droid_tree.specs.Heard.{Heard}
use Rattle.droid_tree.specs.Observation.{Observation}
use Rattle.droid_profile.specs.declared.csv_fault.CsvFault.{CsvFault}
use Rattle.droid_profile.specs.declared.csv_recipient.CsvRecipient.{CsvRecipient}
use Rattle.droid_profile.specs.declared.profiler.Profiler.{Profiler}
use Rattle.droid_profile.specs.declared.options.Options.{Options}
use Rattle.droid_cmd_profile.specs.ProfileEndings.{ending_of, is_written}
use Rattle.droid_cmd_profile.specs.ProfiledFolders.{EndsBy, KeepsTree, ProfilesFolder, fault_in}
use Rattle.droid_cmd_profile.specs.declared.profile_ending.ProfileEnding.{ProfileEnding}
use Rattle.droid_cmd_profile.specs.declared.skipped_file.SkippedFault.{SkippedFault}
use Rattle.droid_cmd_profile.specs.declared.skipped_writer.SkippedWriter.{SkippedWriter}

appended : (old new : Option (List ℕ)) (text csv : List ℕ) → old ≡ Some [] → new ≡ Some text → Appends old new csv → text ≡ csv
appended old new text csv begun kept appends =
    subst (λ (o : Option (List ℕ)). Appends (Some []) o csv) kept (subst (λ (o : Option (List ℕ)). Appends o new csv) begun appends)

module _ {T W S O M : Type 0} (observes : T → Observation → T → Type 0) (hears : W → Heard → W → Type 0)
    (skipped_contents : S → Option (List ℕ)) (skipped_seen : S → Seen) (skipped_room : S → Option ℕ)
    (csv_contents : O → Option (List ℕ)) (csv_seen : O → Seen) (csv_room : O → Option ℕ)
    (list_contents : M → Option (List ℕ)) (list_seen : M → Seen) (list_room : M → Option ℕ) (options : Options)
    (old new : Profiler T (SkippedWriter W S) (CsvRecipient O M)) (text : List ℕ) where
  kept_by : (ended : Result Bool CsvFault) (unlisted : Option SkippedFault) (ending : ProfileEnding)
      → EndsBy observes hears skipped_contents skipped_seen skipped_room csv_contents csv_seen csv_room list_contents list_seen list_room options ended old new
      → ending ≡ ending_of ended unlisted → is_written ending ≡ true → csv_contents old.recipient.csv ≡ Some [] → csv_contents new.recipient.csv ≡ Some text
      → KeepsTree observes hears skipped_contents skipped_seen skipped_room csv_contents csv_seen csv_room list_contents list_seen list_room options old new text
  kept_by (Ok whole) unlisted ending ends is written begun kept = record {
    whole = whole;
    folder = ends;
    is_csv = appended (csv_contents old.recipient.csv) (csv_contents new.recipient.csv) text _ begun kept ends.tree.text;
  }
  kept_by (Err fault) unlisted ending ends is written begun kept =
      let bad : false ≡ true = sym (ap is_written is) ∙ written in
      cc

  pub kept_text : (ending : ProfileEnding)
      → ProfilesFolder observes hears skipped_contents skipped_seen skipped_room csv_contents csv_seen csv_room list_contents list_seen list_room options ending old new
      → is_written ending ≡ true → csv_contents old.recipient.csv ≡ Some [] → csv_contents new.recipient.csv ≡ Some text
      → KeepsTree observes hears skipped_contents skipped_seen skipped_room csv_contents csv_seen csv_room list_contents list_seen list_room options old new text
  kept_text ending profiles written begun kept = kept_by profiles.ended (fault_in new.watcher.file) ending profiles.ends profiles.ending_is written begun kept
