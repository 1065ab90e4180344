-- The records of a profile: its folders and its finished files, as an export shows them.
use Rattle.std.specs.Prelude.{◌≡◌, ℕ, ◌+◌, false, if◌then◌else◌, List, [], ◌∷◌, ◌++◌, Option, Some, None}
use Rattle.droid_frame.specs.declared.hash_value.HashValue.TheVariants as hashes
use Rattle.droid_frame.specs.declared.method.Method.TheVariants.{Unidentified}
use Rattle.droid_frame.specs.declared.node_kind.NodeKind.TheVariants as kinds
use Rattle.droid_frame.specs.declared.record.Record.{Record}
use Rattle.droid_core_spec.specs.Files.{Finding, finding_of}
use Rattle.droid_core_spec.specs.Setting.{Setting}
use Rattle.droid_core_spec.specs.World.{Node, Folder, File, Abandoned, Profile, numbered, path}

-- a file with what it was found to be
abbrev pub found_record : Record → Finding → Record
found_record plain finding =
    record plain {
      kind = kinds.File;
      method = finding.method;
      mismatch = finding.mismatch;
      hash = finding.digest;
      puids = finding.puids;
    }

-- the record of the node with this number: that of a folder has no hash, and an unfinished or abandoned file has no
-- record
abbrev pub record_of : Setting → Profile → ℕ → Node → Option Record
record_of setting profile id (Folder parent modified name) =
    Some (record {
      id = id;
      parent = parent;
      path = path profile.nodes id;
      name = name;
      kind = kinds.Folder;
      size = 0;
      modified = modified;
      method = Unidentified;
      mismatch = false;
      hash = hashes.Nothing;
      puids = [];
    })
record_of setting profile id (File parent modified name content) =
    if content.finished then Some (found_record
    (record {
      id = id;
      parent = parent;
      path = path profile.nodes id;
      name = name;
      kind = kinds.File;
      size = content.size;
      modified = modified;
      method = Unidentified;
      mismatch = false;
      hash = hashes.Nothing;
      puids = [];
    })
    (finding_of setting profile name content))
    else None
record_of setting profile id Abandoned = None

-- the item alone, or no item
abbrev pub option_list : {A : Type 0} → Option A → List A
option_list None = []
option_list (Some x) = x ∷ []

-- the records of the nodes from this number on
abbrev pub records_from : Setting → Profile → ℕ → List Node → List Record
records_from setting profile id [] = []
records_from setting profile id (node ∷ nodes) =
    option_list (record_of setting profile id node) ++ records_from setting profile (id + 1) nodes

-- the folders and finished files of the profile, by number
abbrev pub records : Setting → Profile → List Record
records setting profile = records_from setting profile 1 profile.nodes

-- the record is that of a node of the profile
pub record IsRecordIn (setting : Setting) (profile : Profile) (shown : Record) : Type 0 where
  pub id : ℕ
  pub node : Node
  pub there : numbered profile.nodes id ≡ Some node
  pub its : record_of setting profile id node ≡ Some shown
