-- A tree that was walked, and then compared.
use Rattle.std.proofs.Common.{◌≡◌, ◌∙◌, Bool, List, [], subst}
use Rattle.droid_frame.specs.declared.item.Item.{Item}
use Rattle.droid_pronom.specs.Registry.{Contents}
use Rattle.droid_tree.specs.Heard.{Heard}
use Rattle.droid_tree.specs.Observation.{Observation}
use Rattle.droid_profile.specs.declared.profiler.Profiler.{Profiler}
use Rattle.droid_profile.specs.ProfileRecords.{records_of}
use Rattle.droid_profile.specs.Profiles.{ProfilesTree}
use Rattle.droid_profile.specs.declared.options.Options.{Options}
use Rattle.droid_terminal.specs.SkippedPaths.{Records}
use Rattle.droid_terminal.specs.declared.skipped.recorder.Recorder.{Recorder}
use Rattle.droid_cmd_verify.specs.CheckedTrees.{AfterWalk, ChecksTree, Compares, EndsCheck, IsAfterWalk, WalksTree, items_of}
use Rattle.droid_cmd_verify.specs.KeptItems.{Keeps}
use Rattle.droid_cmd_verify.specs.declared.item_keeper.ItemKeeper.{ItemKeeper}
use Rattle.droid_cmd_verify.specs.declared.tree_check.Checked.{Checked}
use Rattle.droid_cmd_verify.specs.declared.tree_check.CheckFault.{CheckFault}
use Rattle.droid_cmd_verify.proofs.Keeping.{all_recorded, found_formats, found_items}

module _ {T W : Type 0} (observes : T → Observation → T → Type 0) (hears : W → Heard → W → Type 0) (registry : Contents) (options : Options) (files_only identify whole : Bool)
    (old new : Profiler T (Recorder W) ItemKeeper) (begun kept : ItemKeeper) (walked : Recorder W) (files : begun.files_only ≡ files_only) (none : begun.items.items ≡ []) (asked : begun.identify ≡ identify) (no_formats : begun.formats.items ≡ [])
    (profiled : ProfilesTree observes (Records hears) Keeps registry options whole old.tree new.tree old.watcher walked begun kept) (watched : new.watcher.watcher ≡ walked.watcher)
    (items : List Item) (taken : items ≡ kept.items.items) (same_formats : new.recipient.formats.items ≡ kept.formats.items) where
  walks : WalksTree observes hears registry options files_only identify old new walked
  walks = record { whole = whole; begun = begun; begins = (files, none, asked, no_formats); kept = kept; profiled = profiled; watched = watched }

  items_are : items ≡ items_of files_only (records_of registry options profiled.visits)
  items_are = taken ∙ found_items files_only (records_of registry options profiled.visits) begun kept profiled.taken files none

  pub checks : (listed : List Item) (checked : Checked) → Compares listed items checked walked new.watcher → ChecksTree observes hears registry options files_only identify listed checked old new
  unfolding walks
  checks listed checked compares = record {
    walked = walked;
    walks = walks;
    skipped = (all_recorded hears profiled.heard old.watcher walked profiled.informed compares.has_all).1;
    compares = subst (λ (its : List Item). Compares listed its checked walked new.watcher) items_are compares;
    formats = same_formats ∙ found_formats identify (records_of registry options profiled.visits) begun kept profiled.taken asked no_formats;
  }

  pub ends_after : (fault : CheckFault) → IsAfterWalk fault items → EndsCheck observes hears registry options files_only identify fault old new
  unfolding walks
  ends_after fault after = AfterWalk walked walks (subst (λ (its : List Item). IsAfterWalk fault its) items_are after)
