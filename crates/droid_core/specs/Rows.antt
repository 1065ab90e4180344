-- The rows of profiles and nodes that stand for a world.
use Rattle.std.specs.Prelude.{◌≡◌, ℕ, ◌+◌, ◌≤◌, ◌==◌, if◌then◌else◌, List, [], ◌∷◌, ◌++◌, length, map, filter, Option}
use Rattle.std.specs.Prelude.{Some, None}
use Rattle.std.specs.List.{AllByRecursion}
use Rattle.droid_core_spec.specs.Files.{Finding, finding_of}
use Rattle.droid_core_spec.specs.Records.{option_list}
use Rattle.droid_core_spec.specs.Setting.{Setting}
use Rattle.droid_core_spec.specs.World.{Content, Node, Folder, File, Abandoned, Profile, World, numbered, path}
use Rattle.droid_store.specs.Changes as changes
use Rattle.droid_store.specs.declared.rows.ProfileRow.{ProfileRow}
use Rattle.droid_store.specs.Rows as rows
use Rattle.droid_store.specs.Rows.{Rows}

-- the row of a profile, whose count of nodes includes those that were abandoned
abbrev pub profile_row : Profile → ProfileRow
profile_row profile = record {
  scan_limit = profile.scan_limit;
  match_all = profile.match_all;
  nodes = length profile.nodes;
  hash = profile.hash;
}

-- the row of a finished file, with what it was found to be
abbrev pub found_row : Finding → rows.Node → rows.Node
found_row finding plain = changes.finished finding.method finding.mismatch finding.digest finding.puids plain

-- the rows after this file was finished
abbrev pub with_finding : ℕ → ℕ → Finding → Rows → Rows
with_finding profile id finding rows =
    changes.with_finished profile id finding.method finding.mismatch finding.digest finding.puids rows

-- the row of a file, with what it was found to be if it is finished
abbrev pub file_row : Setting → Profile → List ℕ → Content → rows.Node → rows.Node
file_row setting profile name content plain =
    if content.finished then found_row (finding_of setting profile name content) plain else plain

-- the row of the node with this number in the profile with that number; an abandoned node has none
abbrev pub node_row : Setting → ℕ → Profile → ℕ → Node → Option rows.Node
node_row setting profile its id (Folder parent modified name) =
    Some (changes.new_folder profile id parent modified name (path its.nodes id))
node_row setting profile its id (File parent modified name content) =
    Some (file_row setting its name content
    (changes.new_file profile id parent modified content.size content.piece_size name (path its.nodes id)))
node_row setting profile its id Abandoned = None

-- the rows of the nodes from this number on
abbrev pub node_rows_from : Setting → ℕ → Profile → ℕ → List Node → List rows.Node
node_rows_from setting profile its id [] = []
node_rows_from setting profile its id (node ∷ nodes) =
    option_list (node_row setting profile its id node) ++ node_rows_from setting profile its (id + 1) nodes

-- the rows of all nodes of the profile, by number; none if there is no profile
abbrev pub node_rows : Setting → ℕ → Option Profile → List rows.Node
node_rows setting profile None = []
node_rows setting profile (Some its) = node_rows_from setting profile its 1 its.nodes

-- the rows of this profile's nodes, in order
abbrev pub rows_in : ℕ → Rows → List rows.Node
rows_in profile rows = filter (λ node. node.profile == profile) rows.nodes

-- the profile rows are those of the world
abbrev pub KeepsProfiles : World → Rows → Type 0
KeepsProfiles world rows = rows.profiles ≡ map profile_row world.profiles

-- the node rows are those of the world, profile by profile: none for an abandoned node, and for a finished file what it
-- was found to be
abbrev pub KeepsNodes : Setting → World → Rows → Type 0
KeepsNodes setting world rows =
    (profile : ℕ) → rows_in profile rows ≡ node_rows setting profile (numbered world.profiles profile)

-- the name has at most 255 bytes, and the path at most 4,096
pub record AreShort (called way : List ℕ) : Type 0 where
  pub name : length called ≤ 255
  pub path : length way ≤ 4096

-- the name and the path of this row are
abbrev pub IsShort : rows.Node → Type 0
IsShort node = AreShort node.name node.path

-- The rows stand for the world, and each accepted command has a reply row. The name and the path of each node are
-- short, so that its row fits whatever the file is found to be.
pub record KeepsWorld (setting : Setting) (world : World) (rows : Rows) : Type 0 where
  pub profiles : KeepsProfiles world rows
  pub nodes : KeepsNodes setting world rows
  pub accepted : length rows.replies ≡ world.accepted
  pub short : AllByRecursion IsShort rows.nodes

-- ---- what is found of a node

-- the row of the node with this number, if there is such a node and it was not abandoned
abbrev pub stored_in : Setting → ℕ → Profile → ℕ → Option Node → Option rows.Node
stored_in setting profile its id None = None
stored_in setting profile its id (Some node) = node_row setting profile its id node

-- the row of the node with this number, if the profile is there and has such a node that was not abandoned
abbrev pub stored : Setting → ℕ → ℕ → Option Profile → Option rows.Node
stored setting profile id None = None
stored setting profile id (Some its) = stored_in setting profile its id (numbered its.nodes id)
