-- The profile of a tree as it was written (this project's own).
use Rattle.std.specs.Prelude.{◌≡◌, ◌⊎◌, ℕ, Bool, List, [], ◌∷◌, ◌++◌, Option, Some, None, Result, Err}
use Rattle.std.specs.Io.KnownBytes.{Appends}
use Rattle.droid_core_spec.specs.Records.{records}
use Rattle.droid_core_spec.specs.Setting.{Setting}
use Rattle.droid_core_spec.specs.World.{Node}
use Rattle.droid_frame.specs.Seen.{IsSound}
use Rattle.droid_frame.specs.declared.io.stream_record.Seen.{Seen}
use Rattle.droid_frame.specs.declared.record.Record.{Record}
use Rattle.droid_pronom.specs.Registry.{Contents}
use Rattle.droid_tree.specs.Heard.{Heard}
use Rattle.droid_tree.specs.Observation.{Observation}
use Rattle.droid_profile.specs.EarlyEnds.{EndsEarly}
use Rattle.droid_profile.specs.ProfileNodes.{AreNodesOf, Identifies, all_lying, profile_with}
use Rattle.droid_profile.specs.Profiles.{ProfilesTree}
use Rattle.droid_profile.specs.declared.fault.ProfileFault.{ProfileFault}
use Rattle.droid_profile.specs.declared.fault.ProfileFault.TheVariants as walk_faults
use Rattle.droid_profile.specs.declared.options.Options.{Options}
use Rattle.droid_profile.specs.declared.recipient.RecipientFault.{RecipientFault}
use Rattle.droid_profile.specs.declared.recipient.RecipientFault.TheVariants as recipient_faults
use Rattle.droid_profile.specs.Texts.{csv_text, list_text}
use Rattle.droid_profile.specs.Writers.{AppendsNotAll, AppendsSome, LastsOn, Lists, ListsNotAll, ListsSome, Stops}
use Rattle.droid_profile.specs.declared.csv_fault.CsvFault.{CsvFault}
use Rattle.droid_profile.specs.declared.csv_fault.CsvFault.TheVariants as faults

-- ---- a tree that was walked to its end

-- the records that were taken, and the next one
abbrev pub Adds : List Record → Record → List Record → Type 0
Adds old next new = new ≡ old ++ next ∷ []

-- The tree was profiled, and these are the records that were shown: those of a profile that has exactly the nodes of
-- the tree's entries. Their export was written, and the lines of their files, if they were wanted.
pub record WritesTree {T W M : Type 0} (observes : T → Observation → T → Type 0) (hears : W → Heard → W → Type 0)
    (list_contents : M → Option (List ℕ)) (registry : Contents) (options : Options) (whole : Bool)
    (tree tree_after : T) (watcher watcher_after : W) (csv csv_after : Option (List ℕ))
    (manifest manifest_after : Option M) : Type 0 where
  pub shown : List Record
  pub profiled : ProfilesTree observes hears Adds registry options whole tree tree_after watcher watcher_after [] shown
  pub nodes : List Node
  pub are_theirs : AreNodesOf (all_lying profiled.visits) nodes
  pub are_records : (setting : Setting) → Identifies registry setting
      → records setting (profile_with options nodes) ≡ shown
  pub text : Appends csv csv_after (csv_text registry options shown)
  pub list : Lists list_contents manifest manifest_after (list_text shown)

-- ---- a tree whose profile ended early

-- A record that could not be taken because memory ran out is not shown. One that could not be written is: a part of
-- it may be written.
abbrev pub AddsPart : List Record → Record → RecipientFault → List Record → Type 0
AddsPart old next recipient_faults.Memory new = new ≡ old
AddsPart old next (recipient_faults.Write fault) new = new ≡ old ++ next ∷ []

-- the fault of the walk, as it is returned; if a writer stopped, that is returned
abbrev pub Explains : ProfileFault → CsvFault → Type 0
Explains why faults.Memory = (why ≡ walk_faults.Memory) ⊎ (why ≡ walk_faults.Recipient recipient_faults.Memory)
Explains why faults.Numbers = why ≡ walk_faults.Numbers
Explains why _ = Unit {0}

-- a writer stopped
abbrev pub IsOfWriter : CsvFault → Type 0
IsOfWriter faults.Csv = Unit {0}
IsOfWriter faults.Manifest = Unit {0}
IsOfWriter _ = ⊥

-- What was written of the CSV: all of it, or its first bytes if a writer stopped; if its own did, not all of them.
abbrev pub CsvIsFront : CsvFault → Option (List ℕ) → Option (List ℕ) → List ℕ → Type 0
CsvIsFront faults.Csv old new text = AppendsNotAll old new text
CsvIsFront faults.Manifest old new text = AppendsSome old new text
CsvIsFront _ old new text = Appends old new text

-- After the walk the CSV is written before the list: all of it, unless its own writer stopped.
abbrev pub CsvAtEnd : CsvFault → Option (List ℕ) → Option (List ℕ) → List ℕ → Type 0
CsvAtEnd faults.Csv old new text = AppendsNotAll old new text
CsvAtEnd _ old new text = Appends old new text

-- what was written of the list
abbrev pub ListIsFront : {M : Type 0} → (M → Option (List ℕ)) → CsvFault → Option M → Option M → List ℕ → Type 0
ListIsFront contents faults.Csv old new text = ListsSome contents old new text
ListIsFront contents faults.Manifest old new text = ListsNotAll contents old new text
ListIsFront contents _ old new text = Lists contents old new text

-- How it ended with this fault: before the walk began, for memory, and with nothing written; in the walk, at some
-- entry; or after the walk, with a writer that stopped.
pub data EndsWriting {T W M : Type 0} (observes : T → Observation → T → Type 0) (hears : W → Heard → W → Type 0)
    (list_contents : M → Option (List ℕ)) (registry : Contents) (options : Options) (fault : CsvFault)
    (tree tree_after : T) (watcher watcher_after : W) (csv csv_after : Option (List ℕ))
    (manifest manifest_after : Option M) : Type 0 where
  Before : fault ≡ faults.Memory → tree_after ≡ tree → watcher_after ≡ watcher → csv_after ≡ csv
      → manifest_after ≡ manifest
      → EndsWriting observes hears list_contents registry options fault tree tree_after watcher watcher_after csv
      csv_after manifest manifest_after
  During : (shown : List Record) (why : ProfileFault)
      → EndsEarly observes hears Adds AddsPart registry options why tree tree_after watcher watcher_after [] shown
      → Explains why fault
      → CsvIsFront fault csv csv_after (csv_text registry options shown)
      → ListIsFront list_contents fault manifest manifest_after (list_text shown)
      → EndsWriting observes hears list_contents registry options fault tree tree_after watcher watcher_after csv
      csv_after manifest manifest_after
  After : (shown : List Record) (whole : Bool)
      → ProfilesTree observes hears Adds registry options whole tree tree_after watcher watcher_after [] shown
      → IsOfWriter fault
      → CsvAtEnd fault csv csv_after (csv_text registry options shown)
      → ListIsFront list_contents fault manifest manifest_after (list_text shown)
      → EndsWriting observes hears list_contents registry options fault tree tree_after watcher watcher_after csv
      csv_after manifest manifest_after

-- what the watcher learned of a profile that ended early
abbrev pub heard_in : {T W M : Type 0} {observes : T → Observation → T → Type 0} {hears : W → Heard → W → Type 0}
    {list_contents : M → Option (List ℕ)} {registry : Contents} {options : Options} {fault : CsvFault}
    {tree tree_after : T} {watcher watcher_after : W} {csv csv_after : Option (List ℕ)}
    {manifest manifest_after : Option M}
    → EndsWriting observes hears list_contents registry options fault tree tree_after watcher watcher_after csv
    csv_after manifest manifest_after
    → List Heard
heard_in (Before is same_tree same_watcher same_csv same_list) = []
heard_in (During shown why ends explains text list) = ends.heard
heard_in (After shown whole profiled is text list) = profiled.heard

-- ---- which writer stopped

-- the fault `Csv` is returned exactly if the CSV's writer stopped
abbrev pub ReportsCsv : Seen → Seen → Option ℕ → Result Bool CsvFault → Type 0
ReportsCsv old new room (Err faults.Csv) = Stops old new room
ReportsCsv old new room _ = LastsOn old new

-- the fault `Manifest` is returned exactly if the list's writer stopped
abbrev pub ReportsManifest : Seen → Seen → Option ℕ → Result Bool CsvFault → Type 0
ReportsManifest old new room (Err faults.Manifest) = Stops old new room
ReportsManifest old new room _ = LastsOn old new

-- the same, if there is a list
abbrev pub ReportsList : {M : Type 0} → (M → Seen) → (M → Option ℕ) → Option M → Option M → Result Bool CsvFault
    → Type 0
ReportsList seen room None None result = Unit {0}
ReportsList seen room None (Some new) result = ⊥
ReportsList seen room (Some old) None result = ⊥
ReportsList seen room (Some old) (Some new) result =
    IsSound (seen old) → ReportsManifest (seen old) (seen new) (room new) result
