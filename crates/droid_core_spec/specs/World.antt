-- The world: what the accepted commands have made of the empty service (this project's own).
use Rattle.std.specs.Prelude.{ℕ, zero, suc, ◌+◌, ℤ, ◌==◌, ◌&&◌, Bool, false, List, [], ◌∷◌, ◌++◌, fold, Option, Some}
use Rattle.std.specs.Prelude.{None, unwrap_or}
use Rattle.std.specs.List.{slice_get, list_any}
use Rattle.std.specs.Str.{bytes_eq}
use Rattle.droid_frame.specs.declared.hash_kind.HashKind.{HashKind}

-- what a file was announced with, and its pieces so far: each with its index, in the order taken
pub record Content : Type 0 where
  pub size : ℕ
  pub piece_size : ℕ
  pub pieces : List (ℕ × List ℕ)
  pub finished : Bool

-- a node lies in the folder with the number parent, or at the top if parent is 0
pub data Node : Type 0 where
  Folder : (parent : ℕ) (modified : ℤ) (name : List ℕ) → Node
  File : (parent : ℕ) (modified : ℤ) (name : List ℕ) (content : Content) → Node
  Abandoned : Node

-- how the files of a profile are identified, the kind of their hash, and its nodes in order of acceptance
pub record Profile : Type 0 where
  pub scan_limit : ℕ
  pub match_all : Bool
  pub hash : HashKind
  pub nodes : List Node

-- the number of accepted commands, and the profiles in order of acceptance
pub record World : Type 0 where
  pub accepted : ℕ
  pub profiles : List Profile

-- nothing was accepted
abbrev pub empty_world : World
empty_world = record { accepted = 0; profiles = [] }

-- after one command more
abbrev pub world_with : World → List Profile → World
world_with world profiles = record { accepted = world.accepted + 1; profiles = profiles }

-- the item with this number, counted from 1
abbrev pub numbered : {A : Type 0} → List A → ℕ → Option A
numbered items zero = None
numbered items (suc place) = slice_get items place

-- the node, if there is one that was not abandoned
abbrev pub unless_abandoned : Option Node → Option Node
unless_abandoned None = None
unless_abandoned (Some Abandoned) = None
unless_abandoned (Some (Folder parent modified name)) = Some (Folder parent modified name)
unless_abandoned (Some (File parent modified name content)) = Some (File parent modified name content)

-- the node with this number, unless it was abandoned
abbrev pub node_at : List Node → ℕ → Option Node
node_at nodes id = unless_abandoned (numbered nodes id)

-- the node lies in this folder under this name, byte for byte
abbrev pub is_called : ℕ → List ℕ → Node → Bool
is_called parent name (Folder its_parent modified its_name) = (its_parent == parent) && bytes_eq its_name name
is_called parent name (File its_parent modified its_name content) = (its_parent == parent) && bytes_eq its_name name
is_called parent name Abandoned = false

-- a node lies in this folder under this name
unfoldable pub is_taken : List Node → ℕ → List ℕ → Bool
is_taken nodes parent name = list_any (is_called parent name) nodes

-- the path of the item with this number among those; the top has the empty path
abbrev pub path_among : List (List ℕ) → ℕ → List ℕ
path_among paths id = unwrap_or (numbered paths id) []

-- a node's path is its folder's, which was accepted before it, then `/` and the node's name
abbrev pub path_below : List (List ℕ) → Node → List ℕ
path_below paths (Folder parent modified name) = path_among paths parent ++ 47 ∷ name
path_below paths (File parent modified name content) = path_among paths parent ++ 47 ∷ name
path_below paths Abandoned = []

-- the path of each node, in order
abbrev pub paths : List Node → List (List ℕ)
paths nodes = fold (λ before node. before ++ path_below before node ∷ []) [] nodes

-- the path of one node: `/` and the names from the top joined by `/`
abbrev pub path : List Node → ℕ → List ℕ
path nodes id = path_among (paths nodes) id
