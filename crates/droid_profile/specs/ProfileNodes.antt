-- The profile of a tree, as a service would hold it (this project's own).
use Rattle.std.specs.Prelude.{◌≡◌, ℕ, Bool, true, false, List, [], ◌∷◌, ◌++◌, map}
use Rattle.std.specs.List.{flat_map}
use Rattle.droid_core_spec.specs.Files as files
use Rattle.droid_core_spec.specs.Setting.{Setting, Identification}
use Rattle.droid_core_spec.specs.World.{Content, Node, Folder, File, Abandoned, Profile}
use Rattle.droid_pronom.specs.Finding.{found_in}
use Rattle.droid_pronom.specs.Registry.{Contents}
use Rattle.droid_pronom.specs.declared.identification.Found.{Found}
use Rattle.droid_tree.specs.declared.folder_entry.FolderEntry.{FolderEntry}
use Rattle.droid_tree.specs.declared.pending_folder.PendingFolder.{PendingFolder}
use Rattle.droid_profile.specs.Kids.{Kid, Subfolder, AFile}
use Rattle.droid_profile.specs.Readings.{bytes_of, is_whole}
use Rattle.droid_profile.specs.Visits.{Visit}
use Rattle.droid_profile.specs.declared.options.Options.{Options}

-- a finished file of this folder with the entry's name and time, and with exactly these bytes
pub record IsFileOf (folder : ℕ) (entry : FolderEntry) (read : List ℕ) (node : Node) : Type 0 where
  pub content : Content
  pub its : node ≡ File folder entry.modified entry.name content
  pub finished : content.finished ≡ true
  pub size : content.size ≡ entry.len
  pub bytes : files.bytes_of content ≡ read

-- the node of a file: all its bytes were read, or it was abandoned
abbrev pub IsNodeOfFile : Bool → ℕ → FolderEntry → List ℕ → Node → Type 0
IsNodeOfFile true folder entry bytes node = IsFileOf folder entry bytes node
IsNodeOfFile false folder entry bytes node = node ≡ Abandoned

-- after the nodes up to this one: one node for each entry of this folder that has a number
abbrev pub AreNodesOfKid : ℕ → Kid → List Node → Type 0
AreNodesOfKid folder (Subfolder entry number) nodes = nodes ≡ Folder folder entry.modified entry.name ∷ []
AreNodesOfKid folder (AFile entry number reading) nodes =
    (node : Node) × (nodes ≡ node ∷ []) × IsNodeOfFile (is_whole reading.ending) folder entry (bytes_of reading) node
AreNodesOfKid folder _ nodes = nodes ≡ []

-- an entry, and its folder
abbrev pub Lying : Type 0
Lying = PendingFolder × Kid

-- all entries of a folder
abbrev pub lying_in : Visit → List Lying
lying_in visit = map (λ (kid : Kid). (visit.folder, kid)) visit.kids

-- all entries, folder by folder
abbrev pub all_lying : List Visit → List Lying
all_lying visits = flat_map lying_in visits

-- these are the nodes of these entries, in their order
abbrev pub AreNodesOf : List Lying → List Node → Type 0
AreNodesOf [] nodes = nodes ≡ []
AreNodesOf (lying ∷ entries) nodes =
    (its : List Node) × (rest : List Node) × AreNodesOfKid lying.0.number lying.1 its × (nodes ≡ its ++ rest)
    × AreNodesOf entries rest

-- the profile with these nodes
abbrev pub profile_with : Options → List Node → Profile
profile_with options nodes =
    record { scan_limit = options.scan_limit; match_all = options.match_all; hash = options.hash; nodes = nodes }

-- what is found in a file, as a service has it
abbrev pub as_identification : Found → Identification
as_identification found = record { method = found.method; mismatch = found.mismatch; puids = found.puids }

-- the setting identifies each file as the registry does
abbrev pub Identifies : Contents → Setting → Type 0
Identifies registry setting =
    (name bytes : List ℕ) (scan_limit : ℕ) (match_all : Bool)
    → setting.identify name bytes scan_limit match_all
    ≡ as_identification (found_in registry name bytes scan_limit match_all)
