-- The items of the folders and files of a profile, as its export shows them (docs/CSV.md).
use Rattle.std.specs.Prelude.{◌≡◌, ℕ, ℤ, List, Option, Some, None}
use Rattle.droid_frame.specs.declared.hash_value.HashValue.{HashValue}
use Rattle.droid_frame.specs.declared.hash_value.HashValue.TheVariants as values
use Rattle.droid_frame.specs.declared.node_kind.NodeKind.{NodeKind}
use Rattle.droid_frame.specs.declared.node_kind.NodeKind.TheVariants.{File, Folder}
use Rattle.droid_export.specs.Moments.{IsMoment, moment_text}
use Rattle.droid_frame.specs.declared.item.Item.{Item}

-- a file has a length, a folder has none
abbrev pub length_of : NodeKind → ℕ → Option ℕ
length_of File size = Some size
length_of Folder size = None

-- a file may have a hash, a folder has none
abbrev pub hash_of : NodeKind → HashValue → HashValue
hash_of File hash = hash
hash_of Folder hash = values.Nothing

-- the item of a folder or file
abbrev pub item_of : List ℕ → NodeKind → ℕ → ℤ → HashValue → Item
item_of path kind size modified hash =
    record {
      path = path;
      kind = kind;
      length = length_of kind size;
      modified = Some (moment_text modified);
      hash = hash_of kind hash;
    }

-- an item is that of a folder or file; there is none exactly if the moment has no text
abbrev pub IsItemOf : List ℕ → NodeKind → ℕ → ℤ → HashValue → Option Item → Type 0
IsItemOf path kind size modified hash (Some item) = IsMoment modified × (item ≡ item_of path kind size modified hash)
IsItemOf path kind size modified hash None = IsMoment modified → ⊥
