-- What a tree returns while it is profiled: of its folders, and of its files, several of which may be read at a time
-- (this project's own).
use Rattle.std.specs.Prelude.{ℕ, ◌==◌, if◌then◌else◌, List, [], ◌∷◌, length}
use Rattle.std.specs.List.{flat_map}
use Rattle.droid_tree.specs.Heard.{Heard, TookBytes}
use Rattle.droid_tree.specs.Observation.{Observation, Listed, Unlisted, Opened, Unopened, Read, Unread, Exchanged}

-- a call of the tree: for a folder, or a read of the file with this number
pub data Call : Type 0 where
  OfFolder : (observation : Observation) → Call
  OfFile : (number : ℕ) (observation : Observation) → Call

-- what the tree returned
abbrev pub observation_of : Call → Observation
observation_of (OfFolder observation) = observation
observation_of (OfFile number observation) = observation

-- the same, of a call for a folder alone
abbrev pub folder_observed : Call → List Observation
folder_observed (OfFolder observation) = observation ∷ []
folder_observed (OfFile number observation) = []

-- the calls for folders, in their order
abbrev pub folder_calls : List Call → List Observation
folder_calls calls = flat_map folder_observed calls

-- what a read of the file with this number returned
abbrev pub read_for : ℕ → Call → List Observation
read_for number (OfFolder observation) = []
read_for number (OfFile its observation) = if its == number then observation ∷ [] else []

-- the reads of the file with this number, in their order
abbrev pub reads_of : ℕ → List Call → List Observation
reads_of number calls = flat_map (read_for number) calls

-- only a read that returned bytes is reported, with their number
abbrev pub heard_of_observation : Observation → List Heard
heard_of_observation (Read path entry from wanted bytes) = TookBytes path (length bytes) ∷ []
heard_of_observation (Unread path entry from wanted) = []
heard_of_observation (Exchanged path entry from wanted) = []
heard_of_observation (Listed path entries) = []
heard_of_observation (Unlisted path) = []
heard_of_observation (Opened path) = []
heard_of_observation (Unopened path) = []

-- only reads of files are reported
abbrev pub heard_of_call : Call → List Heard
heard_of_call (OfFolder observation) = []
heard_of_call (OfFile number observation) = heard_of_observation observation

-- the watcher is informed of each read that returned bytes, in their order
abbrev pub heard_of_calls : List Call → List Heard
heard_of_calls calls = flat_map heard_of_call calls
