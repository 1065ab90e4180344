-- A tree that was listed, and then compared.
use Rattle.std.proofs.Common.{◌≡◌, ◌∙◌, ◌++◌, Bool, List, [], ap, subst}
use Rattle.droid_frame.specs.declared.item.Item.{Item}
use Rattle.droid_tree.specs.Heard.{Heard}
use Rattle.droid_tree.specs.Observation.{Observation}
use Rattle.droid_profile.specs.ProfileRecords.{records_of}
use Rattle.droid_profile.specs.Profiles.{ProfilesTree}
use Rattle.droid_pronom.specs.Registry.{Contents}
use Rattle.droid_terminal.specs.SkippedPaths.{Records}
use Rattle.droid_terminal.specs.declared.skipped.recorder.Recorder.{Recorder}
use Rattle.droid_profile.specs.declared.profiler.Profiler.{Profiler}
use Rattle.droid_profile.specs.declared.options.Options.{Options}
use Rattle.droid_cmd_verify.specs.CheckedTrees.{Compares, IsAfterWalk, items_of}
use Rattle.droid_cmd_verify.specs.KeptItems.{Keeps}
use Rattle.droid_cmd_verify.specs.ListedTrees.{AfterWalk, ChecksListing, EndsListing, ListsTree}
use Rattle.droid_cmd_verify.specs.NotedFiles.{NotesFiles}
use Rattle.droid_cmd_verify.specs.declared.item_keeper.ItemKeeper.{ItemKeeper}
use Rattle.droid_cmd_verify.specs.declared.noted_files.NotedFiles.{NotedFiles}
use Rattle.droid_cmd_verify.specs.declared.tree_check.CheckFault.{CheckFault}
use Rattle.droid_cmd_verify.specs.declared.tree_check.Checked.{Checked}
use Rattle.droid_cmd_verify.proofs.Keeping.{all_recorded, found_items}

module _ {T W : Type 0} (observes : T → Observation → T → Type 0) (hears : W → Heard → W → Type 0) (registry : Contents) (options : Options) (files_only whole : Bool)
    (old new : Profiler (NotedFiles T) (Recorder W) ItemKeeper) (begun kept : ItemKeeper) (noted : NotedFiles T) (walked : Recorder W) (only : begun.files_only ≡ files_only) (none : begun.items.items ≡ [])
    (profiled : ProfilesTree (NotesFiles observes) (Records hears) Keeps registry options whole old.tree noted old.watcher walked begun kept) (same_tree : new.tree.tree ≡ noted.tree) (watched : new.watcher.watcher ≡ walked.watcher)
    (folders files : List Item) (taken : folders ≡ kept.items.items) (with_files : files ≡ noted.files.items) where
  lists : ListsTree observes hears registry options files_only old new noted walked
  lists = record { whole = whole; begun = begun; begins = (only, none); kept = kept; profiled = profiled; same_tree = same_tree; watched = watched }

  items_are : files ++ folders ≡ noted.files.items ++ items_of files_only (records_of registry options profiled.visits)
  items_are =
      ap (λ (its : List Item). its ++ folders) with_files
      ∙ ap (λ (its : List Item). noted.files.items ++ its) (taken ∙ found_items files_only (records_of registry options profiled.visits) begun kept profiled.taken only none)

  pub checks : (listed : List Item) (checked : Checked) → Compares listed (files ++ folders) checked walked new.watcher → ChecksListing observes hears registry options files_only listed checked old new
  unfolding lists
  checks listed checked compares = record {
    noted = noted;
    walked = walked;
    lists = lists;
    skipped = (all_recorded hears profiled.heard old.watcher walked profiled.informed compares.has_all).1;
    compares = subst (λ (its : List Item). Compares listed its checked walked new.watcher) items_are compares;
  }

  pub ends_after : (fault : CheckFault) → IsAfterWalk fault (files ++ folders) → EndsListing observes hears registry options files_only fault old new
  unfolding lists
  ends_after fault after = AfterWalk noted walked lists (subst (λ (its : List Item). IsAfterWalk fault its) items_are after)
