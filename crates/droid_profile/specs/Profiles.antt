-- The profile of a tree as it was read (this project's own).
use Rattle.std.specs.Prelude.{◌≡◌, ℕ, Bool, true, false, List, [], ◌∷◌, map, filter}
use Rattle.std.specs.List.{flat_map, list_all, AllByRecursion}
use Rattle.droid_frame.specs.declared.record.Record.{Record}
use Rattle.droid_pronom.specs.Registry.{Contents}
use Rattle.droid_tree.specs.Heard.{Heard, Left, Held, TookBytes, TookFolder, TookFile}
use Rattle.droid_tree.specs.Observation.{Observation, GoesOver}
use Rattle.droid_tree.specs.Paths.{top}
use Rattle.droid_profile.specs.Calls.{Call, folder_calls, heard_of_calls, observation_of, reads_of}
use Rattle.droid_profile.specs.ProfileRecords.{records_of}
use Rattle.droid_profile.specs.Visits.{Visit, Follow, InTurn, IsVisit, folder_calls_of, heard_of_visit, is_complete}
use Rattle.droid_profile.specs.Visits.{is_whole_visit, numbers_of, reads_of_visit}
use Rattle.droid_profile.specs.declared.options.Options.{Options}

-- bytes of a file came
abbrev pub is_of_bytes : Heard → Bool
is_of_bytes (TookBytes path count) = true
is_of_bytes (Left path why) = false
is_of_bytes (Held path count) = false
is_of_bytes (TookFolder path) = false
is_of_bytes (TookFile path found) = false

-- something is settled: an entry is in the profile, or was skipped
abbrev pub is_of_entry : Heard → Bool
is_of_entry (TookBytes path count) = false
is_of_entry (Left path why) = true
is_of_entry (Held path count) = true
is_of_entry (TookFolder path) = true
is_of_entry (TookFile path found) = true

-- What the tree returned: for the folders one call after the other; and of each file its reads, one after the other.
-- How the reads of several files come between one another, and between the calls for folders, is not said.
pub record AreCallsOf (visits : List Visit) (calls : List Call) : Type 0 where
  pub folders : folder_calls calls ≡ flat_map folder_calls_of visits
  pub files : (number : ℕ) → reads_of number calls ≡ flat_map (reads_of_visit number) visits

-- What the watcher learned: in one order the outcomes of folders and entries, in another which bytes were read.
pub record AreHeardOf (registry : Contents) (options : Options) (visits : List Visit) (calls : List Call)
    (heard : List Heard) : Type 0 where
  pub entries : filter is_of_entry heard ≡ flat_map (heard_of_visit registry options) visits
  pub bytes : filter is_of_bytes heard ≡ heard_of_calls calls

-- The tree was read folder by folder, each folder once, the top first, and each file from its first byte on. The
-- recipient took the records of all folders and files that were not skipped, in their order. `whole` says whether
-- nothing was skipped, symbolic links aside.
pub record ProfilesTree {T W R : Type 0} (observes : T → Observation → T → Type 0) (hears : W → Heard → W → Type 0)
    (takes : R → Record → R → Type 0) (registry : Contents) (options : Options) (whole : Bool)
    (tree tree_after : T) (watcher watcher_after : W) (recipient recipient_after : R) : Type 0 where
  pub visits : List Visit
  pub in_turn : InTurn (top ∷ []) visits []
  pub visited : AllByRecursion IsVisit visits
  pub complete : list_all is_complete visits ≡ true
  pub numbered : Follow 0 (flat_map numbers_of visits)
  pub whole_is : whole ≡ list_all is_whole_visit visits
  pub calls : List Call
  pub are_calls : AreCallsOf visits calls
  pub observed : GoesOver observes tree (map observation_of calls) tree_after
  pub heard : List Heard
  pub are_heard : AreHeardOf registry options visits calls heard
  pub informed : GoesOver hears watcher heard watcher_after
  pub taken : GoesOver takes recipient (records_of registry options visits) recipient_after
