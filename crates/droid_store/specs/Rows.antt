-- The rows of a store (this project's own definition).
use Rattle.std.specs.Prelude.{ℕ, zero, suc, ℤ, ◌==◌, ◌&&◌, Bool, true, false, not, List, [], map, filter, find, length}
use Rattle.std.specs.Prelude.{if◌then◌else◌, Option, None}
use Rattle.std.specs.List.{slice_get, count_by}
use Rattle.std.specs.Str.{bytes_eq}
use Rattle.droid_frame.specs.declared.hash_value.HashValue.{HashValue}
use Rattle.droid_frame.specs.declared.hash_value.HashValue.TheVariants as hashes
use Rattle.droid_frame.specs.declared.method.Method.{Method}
use Rattle.droid_frame.specs.declared.node_kind.NodeKind.{NodeKind}
use Rattle.droid_frame.specs.declared.node_kind.NodeKind.TheVariants as kind
use Rattle.droid_frame.specs.declared.record.Record.{Record}
use Rattle.droid_store.specs.declared.rows.Counts.{Counts}
use Rattle.droid_store.specs.declared.rows.Entry.{Entry}
use Rattle.droid_store.specs.declared.rows.NodeRow.{NodeRow}
use Rattle.droid_store.specs.declared.rows.NodeState.{NodeState}
use Rattle.droid_store.specs.declared.rows.NodeState.TheVariants.{Folder, Unfinished, Finished}
use Rattle.droid_store.specs.declared.rows.ProfileRow.{ProfileRow}

-- a folder or a file that was not abandoned, with its number and that of its profile
pub record Node : Type 0 where
  pub profile : ℕ
  pub id : ℕ
  pub parent : ℕ
  pub modified : ℤ
  pub state : NodeState
  pub size : ℕ
  pub piece_size : ℕ
  pub method : Method
  pub mismatch : Bool
  pub name : List ℕ
  pub path : List ℕ
  pub puids : List (List ℕ)
  -- the digest; empty for all nodes but finished files with a hash
  pub hash : List ℕ

-- the profiles by number from 1 on, the nodes of all profiles and the replies in order of acceptance
pub record Rows : Type 0 where
  pub profiles : List ProfileRow
  pub nodes : List Node
  pub replies : List Entry

-- no row at all
abbrev pub no_rows : Rows
no_rows = record { profiles = []; nodes = []; replies = [] }

-- ---- look-ups

-- the profile with this number
abbrev pub profile_at : ℕ → Rows → Option ProfileRow
profile_at zero rows = None
profile_at (suc place) rows = slice_get rows.profiles place

-- the node has this number in this profile
abbrev pub is_node : ℕ → ℕ → Node → Bool
is_node profile id n = (n.profile == profile) && (n.id == id)

-- the node with this number in this profile
abbrev pub node_at : ℕ → ℕ → Rows → Option Node
node_at profile id rows = find (is_node profile id) rows.nodes

-- the node lies in this folder and has this name, byte for byte
abbrev pub is_child : ℕ → ℕ → List ℕ → Node → Bool
is_child profile parent name n = (n.profile == profile) && ((n.parent == parent) && bytes_eq n.name name)

-- the node with this name in this folder
abbrev pub child_at : ℕ → ℕ → List ℕ → Rows → Option Node
child_at profile parent name rows = find (is_child profile parent name) rows.nodes

-- the reply is kept under this client and number
abbrev pub is_for : ℕ → ℕ → Entry → Bool
is_for client number e = (e.client == client) && (e.number == number)

-- the reply under this client and number
abbrev pub reply_for : ℕ → ℕ → Rows → Option Entry
reply_for client number rows = find (is_for client number) rows.replies

-- ---- what queries return

-- whether a node is a folder or a file, by its state
abbrev pub kind_of : NodeState → NodeKind
kind_of Folder = kind.Folder
kind_of Unfinished = kind.File
kind_of Finished = kind.File

-- the hash with this digest: none for 0 bytes, MD5 for 16, SHA-256 for 32
abbrev pub hash_of : List ℕ → HashValue
hash_of bytes =
    if length bytes == 0 then hashes.Nothing else if length bytes == 16 then hashes.Md5 bytes else hashes.Sha256 bytes

-- what the export shows of a node
abbrev pub record_of : Node → Record
record_of n = record {
  id = n.id;
  parent = n.parent;
  path = n.path;
  name = n.name;
  kind = kind_of n.state;
  size = n.size;
  modified = n.modified;
  method = n.method;
  mismatch = n.mismatch;
  hash = hash_of n.hash;
  puids = n.puids;
}

-- what the look-up of a node returns
abbrev pub row_of : Node → NodeRow
row_of n = record { state = n.state; piece_size = n.piece_size; item = record_of n }

-- the node is an unfinished file
abbrev pub is_unfinished : NodeState → Bool
is_unfinished Folder = false
is_unfinished Unfinished = true
is_unfinished Finished = false

-- a folder or a finished file of this profile
abbrev pub is_listed : ℕ → Node → Bool
is_listed profile n = (n.profile == profile) && not (is_unfinished n.state)

-- the folders and finished files of a profile, in order of acceptance
abbrev pub records_of : ℕ → Rows → List Record
records_of profile rows = map record_of (filter (is_listed profile) rows.nodes)

-- how many rows there are
abbrev pub counts_of : Rows → Counts
counts_of rows = record {
  profiles = length rows.profiles;
  unfinished = count_by (λ n. is_unfinished n.state) rows.nodes;
  accepted = length rows.replies;
}
