-- What each command makes of the rows (this project's own).
use Rattle.std.specs.Prelude.{◌≡◌, ◌≢◌, ℕ, zero, suc, ℤ, ◌+◌, Bool, false, not, if◌then◌else◌, List, [], ◌∷◌, ◌++◌, map}
use Rattle.std.specs.Prelude.{filter, All, Some, option_map}
use Rattle.droid_frame.specs.Hashes.{hash_bytes, hash_value_kind}
use Rattle.droid_frame.specs.declared.hash_kind.HashKind.{HashKind}
use Rattle.droid_frame.specs.declared.hash_value.HashValue.{HashValue}
use Rattle.droid_frame.specs.declared.method.Method.{Method}
use Rattle.droid_frame.specs.declared.method.Method.TheVariants.{Unidentified}
use Rattle.droid_store.specs.declared.rows.Entry.{Entry}
use Rattle.droid_store.specs.declared.rows.NodeState.{NodeState}
use Rattle.droid_store.specs.declared.rows.NodeState.TheVariants.{Folder, Unfinished, Finished}
use Rattle.droid_store.specs.declared.rows.ProfileRow.{ProfileRow}
use Rattle.droid_store.specs.Rows.{Node, Rows, is_node, profile_at, node_at}

-- with this newest reply
abbrev pub with_reply : Entry → Rows → Rows
with_reply e rows = record rows { replies = rows.replies ++ e ∷ [] }

-- with this newest profile, which has no node yet
abbrev pub with_profile : ℕ → Bool → HashKind → Rows → Rows
with_profile scan_limit match_all hash rows =
    record rows {
      profiles =
          rows.profiles ++ record { scan_limit = scan_limit; match_all = match_all; nodes = 0; hash = hash } ∷ [];
    }

-- the profile with this number has accepted this many nodes
abbrev pub counted : ℕ → ℕ → List ProfileRow → List ProfileRow
counted profile nodes [] = []
counted zero nodes (p ∷ ps) = p ∷ ps
counted (suc zero) nodes (p ∷ ps) = record p { nodes = nodes } ∷ ps
counted (suc (suc profile)) nodes (p ∷ ps) = p ∷ counted (suc profile) nodes ps

-- with this newest node; its number is the count of its profile
abbrev pub with_node : Node → Rows → Rows
with_node n rows = record rows { profiles = counted n.profile n.id rows.profiles; nodes = rows.nodes ++ n ∷ [] }

-- a new node, before anything is found in it
abbrev pub new_node : ℕ → ℕ → ℕ → ℤ → NodeState → ℕ → ℕ → List ℕ → List ℕ → Node
new_node profile id parent modified state size piece_size name path = record {
  profile = profile;
  id = id;
  parent = parent;
  modified = modified;
  state = state;
  size = size;
  piece_size = piece_size;
  method = Unidentified;
  mismatch = false;
  name = name;
  path = path;
  puids = [];
  hash = [];
}

-- a new folder
abbrev pub new_folder : ℕ → ℕ → ℕ → ℤ → List ℕ → List ℕ → Node
new_folder profile id parent modified name path = new_node profile id parent modified Folder 0 0 name path

-- a new file, which is unfinished
abbrev pub new_file : ℕ → ℕ → ℕ → ℤ → ℕ → ℕ → List ℕ → List ℕ → Node
new_file profile id parent modified size piece_size name path =
    new_node profile id parent modified Unfinished size piece_size name path

-- the node with what was found in it
abbrev pub finished : Method → Bool → HashValue → List (List ℕ) → Node → Node
finished method mismatch hash puids n =
    record n { state = Finished; method = method; mismatch = mismatch; hash = hash_bytes hash; puids = puids }

-- with this node finished and no other changed
abbrev pub with_finished : ℕ → ℕ → Method → Bool → HashValue → List (List ℕ) → Rows → Rows
with_finished profile file method mismatch hash puids rows =
    record rows {
      nodes = map (λ n. if is_node profile file n then finished method mismatch hash puids n else n) rows.nodes;
    }

-- without this node; its profile still counts it
abbrev pub without_node : ℕ → ℕ → Rows → Rows
without_node profile file rows = record rows { nodes = filter (λ n. not (is_node profile file n)) rows.nodes }

-- ---- what callers have to make sure of

-- the number is the profile's next one
abbrev pub IsNext : ℕ → ℕ → Rows → Type 0
IsNext profile id rows = option_map (λ p. p.nodes + 1) (profile_at profile rows) ≡ Some id

-- the node is an unfinished file
abbrev pub IsOpen : ℕ → ℕ → Rows → Type 0
IsOpen profile file rows = option_map (λ n. n.state) (node_at profile file rows) ≡ Some Unfinished

-- the hash is of the kind that the profile's files get
abbrev pub IsOfKind : ℕ → HashValue → Rows → Type 0
IsOfKind profile hash rows = option_map (λ p. p.hash) (profile_at profile rows) ≡ Some (hash_value_kind hash)

-- a text that is not empty and has no space
pub record IsWord (text : List ℕ) : Type 0 where
  pub some : text ≢ []
  pub no_space : All (λ byte. byte ≢ 32) text
