-- A tree that is listed, and whose files' sizes and moments are compared with a list (this project's own).
use Rattle.std.specs.Prelude.{◌≡◌, Bool, List, [], ◌++◌}
use Rattle.std.specs.List.{flat_map}
use Rattle.droid_frame.specs.declared.item.Item.{Item}
use Rattle.droid_pronom.specs.Registry.{Contents}
use Rattle.droid_tree.specs.Heard.{Heard}
use Rattle.droid_tree.specs.Observation.{Observation}
use Rattle.droid_profile.specs.EarlyEnds.{EndsEarly}
use Rattle.droid_profile.specs.ProfileRecords.{records_of}
use Rattle.droid_profile.specs.Profiles.{ProfilesTree}
use Rattle.droid_terminal.specs.SkippedPaths.{Records}
use Rattle.droid_terminal.specs.SkippedTexts.{skipped_in}
use Rattle.droid_terminal.specs.declared.skipped.recorder.Recorder.{Recorder}
use Rattle.droid_profile.specs.declared.profiler.Profiler.{Profiler}
use Rattle.droid_profile.specs.declared.fault.ProfileFault.{ProfileFault}
use Rattle.droid_profile.specs.declared.options.Options.{Options}
use Rattle.droid_cmd_verify.specs.CheckedTrees.{Compares, IsAfterWalk, fault_of, items_of}
use Rattle.droid_cmd_verify.specs.KeptItems.{Keeps, KeepsNot}
use Rattle.droid_cmd_verify.specs.NotedFiles.{NotesFiles}
use Rattle.droid_cmd_verify.specs.declared.item_keeper.ItemKeeper.{ItemKeeper}
use Rattle.droid_cmd_verify.specs.declared.noted_files.NotedFiles.{NotedFiles}
use Rattle.droid_cmd_verify.specs.declared.tree_check.CheckFault.{CheckFault}
use Rattle.droid_cmd_verify.specs.declared.tree_check.Checked.{Checked}

module _ {T W : Type 0} (observes : T → Observation → T → Type 0) (hears : W → Heard → W → Type 0) (registry : Contents)
    (options : Options) (files_only : Bool) where
  abbrev Made : Type 0
  Made = Profiler (NotedFiles T) (Recorder W) ItemKeeper

  -- The tree was walked to its end. The walk saw its folders; the files were noted as they were listed.
  pub record ListsTree (old new : Made) (noted : NotedFiles T) (walked : Recorder W) : Type 0 where
    pub whole : Bool
    pub begun : ItemKeeper
    pub begins : (begun.files_only ≡ files_only) × (begun.items.items ≡ [])
    pub kept : ItemKeeper
    pub profiled : ProfilesTree (NotesFiles observes) (Records hears) Keeps registry options whole old.tree noted
        old.watcher walked begun kept
    pub same_tree : new.tree.tree ≡ noted.tree
    pub watched : new.watcher.watcher ≡ walked.watcher

  -- the items of the tree: the files that were noted, behind those that were noted before, and its folders
  abbrev pub items_listed : {old new : Made} {noted : NotedFiles T} {walked : Recorder W}
      → ListsTree old new noted walked → List Item
  items_listed {noted = noted} lists =
      noted.files.items ++ items_of files_only (records_of registry options lists.profiled.visits)

  -- The tree was walked to its end, and the recorder learned of all that was skipped, behind what it had. It keeps what
  -- is unreadable. The report has exactly the differences between the items of the list and those of the tree as it was
  -- listed, of both those that could be read.
  pub record ChecksListing (listed : List Item) (checked : Checked) (old new : Made) : Type 0 where
    pub noted : NotedFiles T
    pub walked : Recorder W
    pub lists : ListsTree old new noted walked
    pub skipped : walked.skipped.items ≡ old.watcher.skipped.items ++ flat_map skipped_in lists.profiled.heard
    pub compares : Compares listed (items_listed lists) checked walked new.watcher

  -- how it ends early: in the walk, or after it
  pub data EndsListing (fault : CheckFault) (old new : Made) : Type 0 where
    InWalk : (why : ProfileFault) (begun : ItemKeeper) → fault ≡ fault_of why
        → (begun.files_only ≡ files_only) × (begun.items.items ≡ [])
        → EndsEarly (NotesFiles observes) (Records hears) Keeps KeepsNot registry options why old.tree new.tree
        old.watcher new.watcher begun new.recipient
        → EndsListing fault old new
    AfterWalk : (noted : NotedFiles T) (walked : Recorder W) (lists : ListsTree old new noted walked)
        → IsAfterWalk fault (items_listed lists) → EndsListing fault old new
