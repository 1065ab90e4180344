-- Which items the text of an export lists.
use Rattle.std.specs.Prelude.{◌≡◌, ◌<◌, ◌^◌, ◌+◌, ◌-◌, ◌==◌, ℕ, Bool, true, false, List, [], ◌∷◌, ◌++◌, length, take}
use Rattle.std.specs.Prelude.{Ok, IsTrue, map, ⊤, if◌then◌else◌}
use Rattle.std.specs.List.{AllByRecursion, Contains, IsDistinct, flat_map}
use Rattle.std.specs.Str.{bytes_eq}
use Rattle.csv.specs.Reading.{AreRecords, default_config, strip_bom}
use Rattle.csv.specs.declared.parser.State.TheVariants as st
use Rattle.droid_frame.specs.Hashes.{IsHashValue}
use Rattle.droid_frame.specs.declared.hash_kind.HashKind.{HashKind}
use Rattle.droid_frame.specs.declared.hash_kind.HashKind.TheVariants as kinds
use Rattle.droid_frame.specs.declared.hash_value.HashValue.{HashValue}
use Rattle.droid_frame.specs.declared.hash_value.HashValue.TheVariants as values
use Rattle.droid_frame.specs.declared.record.Record.{Record}
use Rattle.droid_export.specs.Moments.{IsMoment}
use Rattle.droid_frame.specs.Items.{same_truth}
use Rattle.droid_frame.specs.Filters.{is_file}
use Rattle.droid_frame.specs.Paths.{is_file_path}
use Rattle.droid_frame.specs.declared.item.Item.{Item}
use Rattle.droid_export.specs.ReadFields.{has_no_slash}
use Rattle.droid_export.specs.FolderNumbers.{Saying, agree}
use Rattle.droid_export.specs.Profiles.{profile_of}
use Rattle.droid_lists.specs.Nodes.{item_of}

-- a hash of this kind, or none
abbrev pub HasKind : HashKind → HashValue → Type 0
HasKind kind values.Nothing = ⊤
HasKind kind (values.Md5 digest) = kind ≡ kinds.Md5
HasKind kind (values.Sha256 digest) = kind ≡ kinds.Sha256

-- a record of a profile with this kind of hash
pub record IsRecordOf (hash : HashKind) (node : Record) : Type 0 where
  -- its path is that of the folder above, `/` and its name
  pub path : IsTrue (is_file_path node.path)
  pub above : List ℕ
  pub named : node.path ≡ above ++ 47 ∷ node.name
  pub last : has_no_slash node.name ≡ true
  -- its parent is 0 at the top, and nowhere else
  pub depth : same_truth (node.parent == 0) (length above == 0) ≡ true
  pub id : (0 < node.id) × (node.id < 2 ^ 32)
  pub parent : node.parent < 2 ^ 32
  pub size : node.size < 2 ^ 64
  pub moment : IsMoment node.modified
  pub value : IsHashValue node.hash
  pub kind : HasKind hash node.hash
  -- a folder has no formats
  pub formats : length node.puids < 2 ^ 64
  pub bare : is_file node.kind ≡ false → node.puids ≡ []

-- what a record says of folders' numbers: a folder of its own, and each record below a folder of that one
abbrev pub sayings_of_record : Record → List Saying
sayings_of_record node =
    (if is_file node.kind then [] else (record { number = node.id; path = node.path }) ∷ [])
    ++ (if node.parent == 0 then []
    else (record { number = node.parent; path = take (length node.path - (length node.name + 1)) node.path }) ∷ [])

-- what all records say of folders' numbers
abbrev pub sayings_of : List Record → List Saying
sayings_of nodes = flat_map sayings_of_record nodes

-- records of one profile: no two have one path or one ID, one number is that of one folder, and one folder has one
-- number
pub record AreRecordsOf (hash : HashKind) (nodes : List Record) : Type 0 where
  pub each : AllByRecursion (IsRecordOf hash) nodes
  pub paths : IsDistinct bytes_eq (map (λ node. node.path) nodes)
  pub ids : IsDistinct (λ a b. a == b) (map (λ node. node.id) nodes)
  pub folders : (x y : Saying) → Contains (sayings_of nodes) x → Contains (sayings_of nodes) y → agree x y ≡ true

-- the item of a record
abbrev pub item_of_record : Record → Item
item_of_record node = item_of node.path node.kind node.size node.modified node.hash

-- the items of records
abbrev pub items_of : List Record → List Item
items_of nodes = map item_of_record nodes

-- a text lists items: `csv` reads it as records, and these are a profile of these items
abbrev pub Lists : List ℕ → List Item → Type 0
Lists text items =
    (records : List (List (List ℕ))) × AreRecords default_config st.StartRecord (strip_bom text) records
    × ((formats : Bool) → profile_of formats records ≡ Ok items)
