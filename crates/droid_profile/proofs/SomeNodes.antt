-- Each tree has nodes.
use Rattle.std.proofs.Common.{◌≡◌, ℕ, Bool, true, false, List, [], ◌∷◌, ◌++◌, length, map, length-append, refl, ap, arith}
use Rattle.std.specs.List.{AllByRecursion}
use Rattle.droid_core_spec.proofs.OnePiece.{whole_bytes}
use Rattle.droid_core_spec.specs.World.{Content, Node, Folder, File, Abandoned}
use Rattle.droid_tree.specs.declared.folder_entry.FolderEntry.{FolderEntry}
use Rattle.droid_tree.specs.declared.pending_folder.PendingFolder.{PendingFolder}
use Rattle.droid_profile.specs.Kids.{Kid, Subfolder, AFile, ClosedFolder, AnotherKind, NoText, RefusedEntry, MayCome}
use Rattle.droid_profile.specs.ProfileNodes.{AreNodesOf, AreNodesOfKid, IsFileOf, IsNodeOfFile, Lying, all_lying}
use Rattle.droid_profile.specs.Readings.{Reading, Ending, AtEnd, TooShort, TooLong, NoneCame, OtherFile, NotYet, IsEnding, bytes_of, is_whole, joined, last_bytes}
use Rattle.droid_profile.specs.Visits.{Visit, IsVisit}

-- ---- a file of one piece

abbrev content_of : FolderEntry → List ℕ → Content
content_of entry bytes = record { size = entry.len; piece_size = 1; pieces = (0, bytes) ∷ []; finished = true }

-- ---- the nodes of an entry

pub record Nodes (folder : ℕ) (kid : Kid) : Type 0 where
  pub its : List Node
  pub are : AreNodesOfKid folder kid its

file_of : (folder : ℕ) (entry : FolderEntry) (bytes : List ℕ) → length bytes ≡ entry.len → IsFileOf folder entry bytes (File folder entry.modified entry.name (content_of entry bytes))
file_of folder entry bytes counted = record {
  content = content_of entry bytes;
  its = refl;
  finished = refl;
  size = refl;
  bytes = whole_bytes bytes entry.len counted;
}

abbrev node_of : Bool → ℕ → FolderEntry → List ℕ → Node
node_of true folder entry bytes = File folder entry.modified entry.name (content_of entry bytes)
node_of false folder entry bytes = Abandoned

is_node : (folder : ℕ) (entry : FolderEntry) (reading : Reading) (ending : Ending) → reading.ending ≡ ending → IsEnding entry.len (length (joined reading.pieces)) ending
    → IsNodeOfFile (is_whole ending) folder entry (bytes_of reading) (node_of (is_whole ending) folder entry (bytes_of reading))
is_node folder entry reading (AtEnd wanted bytes) ends is =
    let all : bytes_of reading ≡ joined reading.pieces ++ bytes = ap (λ (ending : Ending). joined reading.pieces ++ last_bytes ending) ends in
    file_of folder entry (bytes_of reading) (omega (arith, ap length all, length-append (joined reading.pieces) bytes, is.1))
is_node folder entry reading (TooShort wanted bytes) ends is = refl
is_node folder entry reading (TooLong wanted bytes) ends is = refl
is_node folder entry reading (NoneCame wanted) ends is = refl
is_node folder entry reading (OtherFile wanted) ends is = refl
is_node folder entry reading NotYet ends is = refl

nodes_of : (folder : ℕ) (path : List ℕ) (kid : Kid) → MayCome path kid → Nodes folder kid
nodes_of folder path (Subfolder entry number) may = record { its = Folder folder entry.modified entry.name ∷ []; are = refl }
nodes_of folder path (AFile entry number reading) may =
    let node : Node = node_of (is_whole reading.ending) folder entry (bytes_of reading) in
    record { its = node ∷ []; are = (node, refl, is_node folder entry reading reading.ending refl may.3.ending) }
nodes_of folder path (ClosedFolder entry) may = record { its = []; are = refl }
nodes_of folder path (AnotherKind entry) may = record { its = []; are = refl }
nodes_of folder path (NoText entry) may = record { its = []; are = refl }
nodes_of folder path (RefusedEntry entry refusal) may = record { its = []; are = refl }

-- ---- the nodes of a tree

pub record SomeNodes (entries : List Lying) : Type 0 where
  pub nodes : List Node
  pub are : AreNodesOf entries nodes

kids_nodes : (folder : PendingFolder) (kids : List Kid) (more : List Lying) → AllByRecursion (MayCome folder.path) kids → SomeNodes more → SomeNodes (map (λ (kid : Kid). (folder, kid)) kids ++ more)
kids_nodes folder [] more may rest = rest
kids_nodes folder (kid ∷ kids) more may rest =
    let first = nodes_of folder.number folder.path kid may.0 in
    let then = kids_nodes folder kids more may.1 rest in
    record { nodes = first.its ++ then.nodes; are = (first.its, then.nodes, first.are, refl, then.are) }

pub tree_nodes : (visits : List Visit) → AllByRecursion IsVisit visits → SomeNodes (all_lying visits)
tree_nodes [] are = record { nodes = []; are = refl }
tree_nodes (visit ∷ visits) are = kids_nodes visit.folder visit.kids (all_lying visits) are.0.kids (tree_nodes visits are.1)
