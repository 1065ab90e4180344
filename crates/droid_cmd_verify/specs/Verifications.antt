-- The comparison of any tree with a list, and its report (this project's own).
use Rattle.std.specs.Prelude.{◌≡◌, ℕ, Bool, true, false, List, [], Option, Some, None, Vec, MatchBool}
use Rattle.std.specs.Option.{is_some}
use Rattle.std.specs.declared.alloc.Global.{Global}
use Rattle.droid_arguments.specs.declared.verify.VerifyOptions.{VerifyOptions}
use Rattle.droid_cmd_verify.specs.Agreements.{Agree}
use Rattle.droid_cmd_verify.specs.CheckedTrees.{ChecksTree, EndsCheck, items_found, options_for}
use Rattle.droid_cmd_verify.specs.Compared.{by_moments}
use Rattle.droid_tree.specs.Heard.{Heard}
use Rattle.droid_lists.specs.ListForms.{names_files_alone}
use Rattle.droid_cmd_verify.specs.ListedTrees.{ChecksListing, EndsListing}
use Rattle.droid_tree.specs.Observation.{Observation}
use Rattle.droid_pronom.specs.Registry.{Contents}
use Rattle.droid_cmd_verify.specs.declared.item_keeper.ItemKeeper.{ItemKeeper}
use Rattle.droid_cmd_verify.specs.declared.measure.Measure.{Measure}
use Rattle.droid_cmd_verify.specs.declared.noted_files.NotedFiles.{NotedFiles}
use Rattle.droid_cmd_verify.specs.declared.tree_check.CheckFault.{CheckFault}
use Rattle.droid_cmd_verify.specs.declared.tree_check.Checked.{Checked}
use Rattle.droid_lists.specs.declared.format_lists.file_formats.FileFormats.{FileFormats}
use Rattle.droid_export.specs.declared.reading.format_row.FormatRow.{FormatRow}
use Rattle.droid_terminal.specs.declared.skipped.recorder.Recorder.{Recorder}
use Rattle.droid_terminal.specs.declared.skipped.skipped_entry.SkippedEntry.{SkippedEntry}
use Rattle.droid_profile.specs.declared.profiler.Profiler.{Profiler}
use Rattle.droid_profile.specs.declared.options.Options.{Options}
use Rattle.droid_frame.specs.declared.hash_kind.HashKind.TheVariants.{Nothing}
use Rattle.droid_cmd_verify.specs.Outcomes.{IsOutcome, WritesOutcome}
use Rattle.droid_cmd_verify.specs.VerifyEndings.{unchecked}
use Rattle.droid_cmd_verify.specs.WalkOptions.{walk_options}
use Rattle.droid_cmd_verify.specs.declared.lists.ComparedList.{ComparedList}
use Rattle.droid_cmd_verify.specs.declared.outcome.Outcome.{Outcome}
use Rattle.droid_cmd_verify.specs.declared.verification.Verified.{Verified}
use Rattle.droid_cmd_verify.specs.declared.verify_ending.VerifyEnding.{VerifyEnding}
use Rattle.droid_cmd_verify.specs.declared.verify_ending.VerifyEnding.TheVariants.{NoMemory}

-- there is no report
abbrev pub without_report : VerifyEnding → Verified
without_report ending = record { ending = ending; summary = None }

-- The report of a comparison: all that differs or was not compared. It was written, or its writer stopped; or memory
-- ran out, and nothing was written.
pub data Finishes {O : Type 0} (contents : O → Option (List ℕ)) (how : Measure) (rows : Option (Vec FormatRow Global))
    (formats : List FileFormats) (checked : Checked) (unreadable : List SkippedEntry)
    (old new : O) (verified : Verified) : Type 0 where
  Reported : (outcome : Outcome) → IsOutcome how rows formats checked unreadable outcome
      → WritesOutcome (contents old) (contents new) outcome verified.ending
      → verified.summary ≡ Some outcome.summary → Finishes contents how rows formats checked unreadable old new verified
  Unreported : verified ≡ without_report NoMemory → new ≡ old
      → Finishes contents how rows formats checked unreadable old new verified

module _ {T W O : Type 0} (observes : T → Observation → T → Type 0) (hears : W → Heard → W → Type 0)
    (contents : O → Option (List ℕ)) (registry : Contents) (options : Options) (lists : ComparedList) where
  -- A tree that was read: compared to its end and reported; or the comparison ended early, and nothing was written.
  pub data VerifiesTree (old new : Profiler T (Recorder W) ItemKeeper) (before after : O) (verified : Verified)
      : Type 0 where
    Read : (checked : Checked)
        → ChecksTree observes hears registry (options_for options lists.listed.hash)
        (names_files_alone lists.listed.form) (is_some lists.rows) lists.listed.items checked old new
        → Finishes contents lists.how lists.rows new.recipient.formats.items checked new.watcher.skipped.items before
        after verified
        → VerifiesTree old new before after verified
    Unread : (fault : CheckFault)
        → EndsCheck observes hears registry (options_for options lists.listed.hash)
        (names_files_alone lists.listed.form) (is_some lists.rows) fault old new
        → verified ≡ without_report (unchecked fault) → after ≡ before → VerifiesTree old new before after verified

  -- the same of a tree that was listed
  pub data VerifiesListing (old new : Profiler (NotedFiles T) (Recorder W) ItemKeeper) (before after : O)
      (verified : Verified) : Type 0 where
    Listed : (checked : Checked)
        → ChecksListing observes hears registry (options_for options Nothing) (names_files_alone lists.listed.form)
        lists.listed.items checked old new
        → Finishes contents lists.how None new.recipient.formats.items checked new.watcher.skipped.items before after
        verified
        → VerifiesListing old new before after verified
    Unlisted : (fault : CheckFault)
        → EndsListing observes hears registry (options_for options Nothing) (names_files_alone lists.listed.form) fault
        old new
        → verified ≡ without_report (unchecked fault) → after ≡ before → VerifiesListing old new before after verified

  -- The tree was read and compared, nothing in it was unreadable, and the list and the tree agree.
  pub record FindsAgreement (old new : Profiler T (Recorder W) ItemKeeper) : Type 0 where
    pub checked : Checked
    pub checks : ChecksTree observes hears registry (options_for options lists.listed.hash)
        (names_files_alone lists.listed.form) (is_some lists.rows) lists.listed.items checked old new
    pub all_readable : new.watcher.skipped.items ≡ []
    pub agree : Agree lists.listed.items
        (items_found observes hears registry (options_for options lists.listed.hash)
        (names_files_alone lists.listed.form) (is_some lists.rows) checks.walks)

  -- ---- as the command does, with a tree that nobody looked at yet and nothing skipped

  -- a tree and its watcher, before anything was heard
  pub record Begins (tree : T) (watcher : W) (old_tree : T) (recorder : Recorder W) : Type 0 where
    pub tree_is : old_tree ≡ tree
    pub watcher_is : recorder.watcher ≡ watcher
    pub none_skipped : recorder.skipped.items ≡ []
    pub has_all : recorder.has_all ≡ true

  -- the tree was read
  pub record ReadsTree (tree : T) (watcher : W) (before after : O) (verified : Verified) : Type 0 where
    pub old : Profiler T (Recorder W) ItemKeeper
    pub new : Profiler T (Recorder W) ItemKeeper
    pub begins : Begins tree watcher old.tree old.watcher
    pub verifies : VerifiesTree old new before after verified

  -- the tree was listed
  pub record ListsTree (tree : T) (watcher : W) (before after : O) (verified : Verified) : Type 0 where
    pub old : Profiler (NotedFiles T) (Recorder W) ItemKeeper
    pub new : Profiler (NotedFiles T) (Recorder W) ItemKeeper
    pub begins : Begins tree watcher old.tree.tree old.watcher
    pub verifies : VerifiesListing old new before after verified

-- The tree was listed if moments are compared, and otherwise read, with the limit and the matching of the options where
-- formats are compared.
abbrev pub VerifiesAs : {T W O : Type 0} → (T → Observation → T → Type 0) → (W → Heard → W → Type 0)
    → (O → Option (List ℕ)) → Contents → VerifyOptions → ComparedList → T → W → O → O → Verified → Type 0
VerifiesAs observes hears contents registry options lists tree watcher before after verified =
    let walk = walk_options (is_some lists.rows) options.limit options.match_all in
    MatchBool (by_moments lists.how)
    (ListsTree observes hears contents registry walk lists tree watcher before after verified)
    (ReadsTree observes hears contents registry walk lists tree watcher before after verified)
