-- What is known of the folders and files of a submission (this project's own).
use Rattle.std.specs.Prelude.{ℕ, not, Bool, count_by, List, map}
use Rattle.droid_lists.specs.declared.known.Known.{Known}
use Rattle.droid_frame.specs.declared.node_kind.NodeKind.{NodeKind}
use Rattle.droid_frame.specs.declared.node_kind.NodeKind.TheVariants as nodes
use Rattle.droid_tree.specs.declared.folder_entry.EntryKind.{EntryKind}
use Rattle.droid_tree.specs.declared.folder_entry.EntryKind.TheVariants as entries
use Rattle.droid_upload.specs.declared.node.Node.{Node}

-- what is no folder is a file: a submission has nothing else
abbrev pub node_kind : EntryKind → NodeKind
node_kind entries.Folder = nodes.Folder
node_kind entries.File = nodes.File
node_kind entries.Link = nodes.File
node_kind entries.Other = nodes.File
node_kind entries.TooLong = nodes.File

-- what is known of a folder or file that was submitted
abbrev pub known_of_node : Node → Known
known_of_node node = record {
  number = node.number;
  parent = node.parent;
  path = node.path;
  kind = node_kind node.kind;
  size = node.len;
  modified = node.modified;
  found = node.found;
}

-- what is known of all that was submitted, in order
abbrev pub known_of_nodes : List Node → List Known
known_of_nodes nodes = map known_of_node nodes

-- the file is in the profile and was not read in this run
abbrev pub is_unread : Node → Bool
is_unread node = not node.is_read

-- how many there are
abbrev pub unread_in : List Node → ℕ
unread_in nodes = count_by is_unread nodes
