-- Lists that are read as they were written.
use Rattle.std.specs.Prelude.{◌≡◌, ℕ, List, length, IsTrue}
use Rattle.std.specs.List.{AllByRecursion, flat_map}
use Rattle.droid_frame.specs.Fields.{IsBytes}
use Rattle.droid_frame.specs.declared.hash_value.HashValue.{HashValue}
use Rattle.droid_frame.specs.declared.hash_value.HashValue.TheVariants.{Nothing, Md5, Sha256}
use Rattle.droid_frame.specs.Paths.{is_file_path}
use Rattle.droid_frame.specs.declared.item.Item.{Item}
use Rattle.droid_fixity.specs.Lines.{file_item}
use Rattle.droid_fixity.specs.Lists.{HaveOneKind}
use Rattle.droid_fixity.specs.Writing.{line}

-- an MD5 or a SHA-256
abbrev pub IsDigest : HashValue → Type 0
IsDigest Nothing = ⊥
IsDigest (Md5 digest) = (length digest ≡ 16) × IsBytes digest
IsDigest (Sha256 digest) = (length digest ≡ 32) × IsBytes digest

-- a file that a list can have: nothing is known of it but its path and its digest
pub record IsListed (item : Item) : Type 0 where
  pub path : IsTrue (is_file_path item.path)
  pub digest : IsDigest item.hash
  pub only : item ≡ file_item item.hash item.path

-- the files of one list: their digests are of one kind
pub record AreListed (items : List Item) : Type 0 where
  pub each : AllByRecursion IsListed items
  pub kinds : HaveOneKind items

-- the lines of files
abbrev pub lines_of : List Item → List ℕ
lines_of items = flat_map (λ item. line item.hash item.path) items
