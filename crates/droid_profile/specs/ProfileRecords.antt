-- The records of a tree: its folders and files, as an export shows them.
use Rattle.std.specs.Prelude.{ℕ, false, List, [], ◌∷◌}
use Rattle.std.specs.List.{flat_map}
use Rattle.droid_frame.specs.Hashes.{hash}
use Rattle.droid_frame.specs.declared.hash_value.HashValue.TheVariants as hashes
use Rattle.droid_frame.specs.declared.method.Method.TheVariants.{Unidentified}
use Rattle.droid_frame.specs.declared.node_kind.NodeKind.TheVariants as kinds
use Rattle.droid_frame.specs.declared.record.Record.{Record}
use Rattle.droid_pronom.specs.Registry.{Contents}
use Rattle.droid_pronom.specs.declared.identification.Found.{Found}
use Rattle.droid_tree.specs.Paths.{below}
use Rattle.droid_tree.specs.declared.folder_entry.FolderEntry.{FolderEntry}
use Rattle.droid_tree.specs.declared.pending_folder.PendingFolder.{PendingFolder}
use Rattle.droid_profile.specs.Kids.{Kid, Subfolder, AFile, found_of}
use Rattle.droid_profile.specs.Readings.{Reading, Ending, AtEnd, bytes_of}
use Rattle.droid_profile.specs.Visits.{Visit}
use Rattle.droid_profile.specs.declared.options.Options.{Options}

-- a folder has no length, no hash and no format
abbrev pub folder_record : PendingFolder → FolderEntry → ℕ → Record
folder_record folder entry number = record {
  id = number;
  parent = folder.number;
  path = below folder.path entry.name;
  name = entry.name;
  kind = kinds.Folder;
  size = 0;
  modified = entry.modified;
  method = Unidentified;
  mismatch = false;
  hash = hashes.Nothing;
  puids = [];
}

-- a file has the hash of its bytes, and what is found by these bytes and its name
abbrev pub file_record : Options → PendingFolder → FolderEntry → ℕ → List ℕ → Found → Record
file_record options folder entry number bytes found = record {
  id = number;
  parent = folder.number;
  path = below folder.path entry.name;
  name = entry.name;
  kind = kinds.File;
  size = entry.len;
  modified = entry.modified;
  method = found.method;
  mismatch = found.mismatch;
  hash = hash options.hash bytes;
  puids = found.puids;
}

-- a file has a record if it was read to its end
abbrev pub records_of_file : Contents → Options → PendingFolder → FolderEntry → ℕ → Reading → Ending → List Record
records_of_file registry options folder entry number reading (AtEnd wanted bytes) =
    file_record options folder entry number (bytes_of reading) (found_of registry options entry (bytes_of reading)) ∷ []
records_of_file registry options folder entry number reading _ = []

-- the record of an entry of this folder, if it is in the profile
abbrev pub records_of_kid : Contents → Options → PendingFolder → Kid → List Record
records_of_kid registry options folder (Subfolder entry number) = folder_record folder entry number ∷ []
records_of_kid registry options folder (AFile entry number reading) =
    records_of_file registry options folder entry number reading reading.ending
records_of_kid registry options folder _ = []

-- the records of a folder's entries, in order
abbrev pub records_of_visit : Contents → Options → Visit → List Record
records_of_visit registry options visit = flat_map (records_of_kid registry options visit.folder) visit.kids

-- the records of all entries that are in the profile, folder by folder
abbrev pub records_of : Contents → Options → List Visit → List Record
records_of registry options visits = flat_map (records_of_visit registry options) visits
