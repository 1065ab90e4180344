-- What stands after the profiling of a tree that ended early (this project's own).
use Rattle.std.specs.Prelude.{◌≡◌, ◌⊎◌, ◌+◌, ◌≤◌, Bool, true, false, not, List, [], ◌∷◌, ◌++◌, length, map, filter}
use Rattle.std.specs.List.{count_by, flat_map}
use Rattle.droid_frame.specs.declared.record.Record.{Record}
use Rattle.droid_pronom.specs.Registry.{Contents}
use Rattle.droid_tree.specs.Heard.{Heard, Left, Held, TookBytes, TookFolder, TookFile}
use Rattle.droid_tree.specs.Observation.{Observation, GoesOver}
use Rattle.droid_tree.specs.Paths.{top}
use Rattle.droid_tree.specs.declared.folder_entry.FolderEntry.{FolderEntry}
use Rattle.droid_tree.specs.declared.pending_folder.PendingFolder.{PendingFolder}
use Rattle.droid_tree.specs.declared.skip_reason.Skipped.{Skipped}
use Rattle.droid_tree.specs.declared.skip_reason.Skipped.TheVariants as reasons
use Rattle.droid_profile.specs.Calls.{Call, heard_of_calls, observation_of}
use Rattle.droid_profile.specs.ProfileRecords.{records_of}
use Rattle.droid_profile.specs.Profiles.{AreCallsOf, is_of_bytes, is_of_entry}
use Rattle.droid_profile.specs.Visits.{Visit, Follow, InTurn, IsBegun, IsVisit, heard_of_visit, numbers_of}
use Rattle.droid_profile.specs.declared.fault.ProfileFault.{ProfileFault}
use Rattle.droid_profile.specs.declared.fault.ProfileFault.TheVariants as faults
use Rattle.droid_profile.specs.declared.options.Options.{Options}
use Rattle.droid_profile.specs.declared.recipient.RecipientFault.{RecipientFault}

-- the first of these items
pub record AreFirst {A : Type 0} (first all : List A) : Type 0 where
  pub rest : List A
  pub are : all ≡ first ++ rest

-- in each visit each entry has an outcome, but in the last one some entries may be left
abbrev pub AreBegun : List Visit → Type 0
AreBegun [] = Unit {0}
AreBegun (visit ∷ []) = (rest : List FolderEntry) × IsBegun rest visit
AreBegun (visit ∷ (next ∷ visits)) = IsVisit visit × AreBegun (next ∷ visits)

-- the tree stands where the calls led; if memory ran out, nothing is said of the tree's own state
abbrev pub TreeStands : {T : Type 0} → ProfileFault → T → T → Type 0
TreeStands fault reached tree = (tree ≡ reached) ⊎ (fault ≡ faults.Memory)

-- The recipient took these first records, and no more; or it failed at the next one, which is the fault.
pub data TakesFirst {R : Type 0} (takes : R → Record → R → Type 0) (fails : R → Record → RecipientFault → R → Type 0)
    (fault : ProfileFault) (records taken : List Record) (old new : R) : Type 0 where
  Took : AreFirst taken records → GoesOver takes old taken new
      → ((why : RecipientFault) → ¬ (fault ≡ faults.Recipient why)) → TakesFirst takes fails fault records taken old new
  Failed : (next : Record) (reached : R) (why : RecipientFault) → AreFirst (taken ++ next ∷ []) records
      → GoesOver takes old taken reached → fails reached next why new → fault ≡ faults.Recipient why
      → TakesFirst takes fails fault records taken old new

-- it reports a folder or a file that is in the profile
abbrev pub is_of_record : Heard → Bool
is_of_record (TookBytes path count) = false
is_of_record (Left path why) = false
is_of_record (Held path count) = false
is_of_record (TookFolder path) = true
is_of_record (TookFile path found) = true

-- its folder lists its name twice
abbrev pub is_same_name : Skipped → Bool
is_same_name reasons.SameName = true
is_same_name _ = false

-- it reports anything but an entry that has the name of another one: these are all reported when their folder is listed
abbrev pub is_counted : Heard → Bool
is_counted (TookBytes path count) = true
is_counted (Left path why) = not (is_same_name why)
is_counted (Held path count) = true
is_counted (TookFolder path) = true
is_counted (TookFile path found) = true

-- The profiling ended with this fault: the same calls and reports in the same order as without it, up to some entry. Of
-- the files that were being read only the first reads are there. Each folder and file was reported whose record was
-- taken, and no other. At most 8,192 entries wait for their report, and as many have a number and none. The last number
-- was given if the fault is that numbers end.
pub record EndsEarly {T W R : Type 0} (observes : T → Observation → T → Type 0) (hears : W → Heard → W → Type 0)
    (takes : R → Record → R → Type 0) (fails : R → Record → RecipientFault → R → Type 0) (registry : Contents)
    (options : Options) (fault : ProfileFault)
    (tree tree_after : T) (watcher watcher_after : W) (recipient recipient_after : R) : Type 0 where
  pub visits : List Visit
  pub waiting : List PendingFolder
  pub in_turn : InTurn (top ∷ []) visits waiting
  pub begun : AreBegun visits
  pub numbered : Follow 0 (flat_map numbers_of visits)
  pub calls : List Call
  pub are_calls : AreCallsOf visits calls
  pub reached : T
  pub observed : GoesOver observes tree (map observation_of calls) reached
  pub stands : TreeStands fault reached tree_after
  pub heard : List Heard
  pub entries : AreFirst (filter is_of_entry heard) (flat_map (heard_of_visit registry options) visits)
  pub few_wait : count_by is_counted entries.rest ≤ 8192
  pub few_unreported : length (flat_map numbers_of visits) ≤ length (filter is_of_entry heard) + 8192
  pub bytes : filter is_of_bytes heard ≡ heard_of_calls calls
  pub informed : GoesOver hears watcher heard watcher_after
  pub given : List Record
  pub taken : TakesFirst takes fails fault (records_of registry options visits) given recipient recipient_after
  pub reported : count_by is_of_record heard ≡ length given
  pub all_numbers : fault ≡ faults.Numbers → length (flat_map numbers_of visits) ≡ 4294967295
