-- A tree that is compared with a list (this project's own).
use Rattle.std.specs.Prelude.{◌≡◌, Bool, true, false, not, List, [], ◌++◌, filter}
use Rattle.std.specs.List.{flat_map}
use Rattle.droid_lists.specs.declared.format_lists.file_formats.FileFormats.{FileFormats}
use Rattle.droid_fixity.specs.FilePairs.{AreFilePairs}
use Rattle.droid_fixity.specs.Inventories.{IsTwice}
use Rattle.droid_fixity.specs.Reports.{IsReport}
use Rattle.droid_frame.specs.declared.item.Item.{Item}
use Rattle.droid_lists.specs.Listings.{IsInventory}
use Rattle.droid_frame.specs.declared.hash_kind.HashKind.{HashKind}
use Rattle.droid_frame.specs.declared.record.Record.{Record}
use Rattle.droid_pronom.specs.Registry.{Contents}
use Rattle.droid_tree.specs.Heard.{Heard}
use Rattle.droid_tree.specs.Observation.{Observation}
use Rattle.droid_tree.specs.declared.skip_reason.Skipped.{Skipped}
use Rattle.droid_tree.specs.declared.skip_reason.Skipped.TheVariants as reasons
use Rattle.droid_profile.specs.declared.profiler.Profiler.{Profiler}
use Rattle.droid_profile.specs.EarlyEnds.{EndsEarly}
use Rattle.droid_profile.specs.ProfileRecords.{records_of}
use Rattle.droid_profile.specs.Profiles.{ProfilesTree}
use Rattle.droid_profile.specs.declared.fault.ProfileFault.{ProfileFault}
use Rattle.droid_profile.specs.declared.fault.ProfileFault.TheVariants as walking
use Rattle.droid_profile.specs.declared.options.Options.{Options}
use Rattle.droid_terminal.specs.SkippedPaths.{Records, is_explained}
use Rattle.droid_terminal.specs.SkippedTexts.{skipped_in}
use Rattle.droid_terminal.specs.declared.skipped.recorder.Recorder.{Recorder}
use Rattle.droid_terminal.specs.declared.skipped.skipped_entry.SkippedEntry.{SkippedEntry}
use Rattle.droid_cmd_verify.specs.KeptItems.{Keeps, KeepsNot, formats_by, items_by}
use Rattle.droid_cmd_verify.specs.declared.item_keeper.ItemKeeper.{ItemKeeper}
use Rattle.droid_cmd_verify.specs.declared.tree_check.Checked.{Checked}
use Rattle.droid_cmd_verify.specs.declared.tree_check.CheckFault.{CheckFault}
use Rattle.droid_cmd_verify.specs.declared.tree_check.CheckFault.TheVariants as faults

-- A symbolic link is no part of a tree, and of entries with one name the first counts. Everything else that was skipped
-- is unreadable.
abbrev pub is_unreadable : Skipped → Bool
is_unreadable reasons.Link = false
is_unreadable reasons.Kind = true
is_unreadable reasons.Name = true
is_unreadable reasons.SameName = false
is_unreadable (reasons.Refused refusal) = true
is_unreadable reasons.Unreadable = true
is_unreadable reasons.Changed = true
is_unreadable reasons.OtherHash = true

-- what counts as unreadable of all that was skipped
abbrev pub unreadable_in : List SkippedEntry → List SkippedEntry
unreadable_in skipped = filter (λ entry. is_unreadable entry.why) skipped

-- whether an item could be read: neither it nor a folder above it is unreadable
abbrev pub is_readable : List SkippedEntry → Item → Bool
is_readable unreadable item = not (is_explained unreadable item.path)

-- the items that could be read
abbrev pub readable_in : List SkippedEntry → List Item → List Item
readable_in unreadable items = filter (is_readable unreadable) items

-- the options of the walk: each file gets a hash of the list's kind
abbrev pub options_for : Options → HashKind → Options
options_for options hash = record options { hash = hash }

-- the items of records
abbrev pub items_of : Bool → List Record → List Item
items_of files_only shown = flat_map (items_by files_only) shown

-- the formats of the files among records, if formats are kept
abbrev pub formats_of : Bool → List Record → List FileFormats
formats_of identify shown = flat_map (formats_by identify) shown

-- the fault that a fault of the walk is
abbrev pub fault_of : ProfileFault → CheckFault
fault_of walking.Memory = faults.Memory
fault_of walking.Numbers = faults.Numbers
fault_of (walking.Recipient why) = faults.Memory

-- why it ended after the walk that found these items: memory ran out, or a path was found twice
abbrev pub IsAfterWalk : CheckFault → List Item → Type 0
IsAfterWalk faults.Memory found = Unit {0}
IsAfterWalk faults.Numbers found = ⊥
IsAfterWalk (faults.Twice same) found = IsTwice found same.path

-- The recorder has all that was skipped, and keeps what is unreadable. The report has exactly the differences between
-- the items of the list that could be read and those of these items that could: a folder that was found and could not
-- be listed later is unreadable, and nothing else is reported of it and of what lies below it. The files are those of
-- both.
pub record Compares {W : Type 0} (listed found : List Item) (checked : Checked) (old new : Recorder W) : Type 0 where
  pub has_all : old.has_all ≡ true
  pub unreadable : new.skipped.items ≡ unreadable_in old.skipped.items
  pub listed_are : IsInventory (readable_in new.skipped.items listed) checked.listed
  pub found_are : IsInventory (readable_in new.skipped.items found) checked.found
  pub report : IsReport checked.listed checked.found checked.differences.items
  pub files : AreFilePairs checked.listed checked.found checked.files.items

module _ {T W : Type 0} (observes : T → Observation → T → Type 0) (hears : W → Heard → W → Type 0) (registry : Contents)
    (options : Options) (files_only identify : Bool) where
  abbrev Made : Type 0
  Made = Profiler T (Recorder W) ItemKeeper

  -- nothing is kept yet
  abbrev pub Begins : ItemKeeper → Type 0
  Begins begun =
      (begun.files_only ≡ files_only) × (begun.items.items ≡ []) × (begun.identify ≡ identify)
      × (begun.formats.items ≡ [])

  -- the tree was walked to its end; what was kept before is forgotten
  pub record WalksTree (old new : Made) (walked : Recorder W) : Type 0 where
    pub whole : Bool
    pub begun : ItemKeeper
    pub begins : Begins begun
    pub kept : ItemKeeper
    pub profiled : ProfilesTree observes (Records hears) Keeps registry options whole old.tree new.tree old.watcher
        walked begun kept
    pub watched : new.watcher.watcher ≡ walked.watcher

  -- the items of the tree as it was read
  abbrev pub items_found : {old new : Made} {walked : Recorder W} → WalksTree old new walked → List Item
  items_found walks = items_of files_only (records_of registry options walks.profiled.visits)

  -- The tree was walked to its end, and the recorder learned of all that was skipped, behind what it had. It keeps what
  -- is unreadable. The report has exactly the differences between the items of the list and those of the tree as it was
  -- read, of both those that could be read. If formats are kept, the keeper has those that were found in each file that
  -- was read.
  pub record ChecksTree (listed : List Item) (checked : Checked) (old new : Made) : Type 0 where
    pub walked : Recorder W
    pub walks : WalksTree old new walked
    pub skipped : walked.skipped.items ≡ old.watcher.skipped.items ++ flat_map skipped_in walks.profiled.heard
    pub compares : Compares listed (items_found walks) checked walked new.watcher
    pub formats : new.recipient.formats.items ≡ formats_of identify (records_of registry options walks.profiled.visits)

  -- how it ends early: in the walk, or after it
  pub data EndsCheck (fault : CheckFault) (old new : Made) : Type 0 where
    InWalk : (why : ProfileFault) (begun : ItemKeeper) → fault ≡ fault_of why → Begins begun
        → EndsEarly observes (Records hears) Keeps KeepsNot registry options why old.tree new.tree old.watcher
        new.watcher begun new.recipient
        → EndsCheck fault old new
    AfterWalk : (walked : Recorder W) (walks : WalksTree old new walked) → IsAfterWalk fault (items_found walks)
        → EndsCheck fault old new
