-- The items of a list of folders and files, and how two items of one path differ (this project's own rules).
use Rattle.std.specs.Prelude.{ℕ, ◌==◌, Bool, true, false, ◌||◌, ◌&&◌, not, List, length, Option, Some, None}
use Rattle.std.specs.Str.{bytes_eq}
use Rattle.droid_frame.specs.Hashes.{hash_bytes, hash_kind_number, hash_value_kind}
use Rattle.droid_frame.specs.declared.hash_value.HashValue.{HashValue}
use Rattle.droid_frame.specs.Filters.{is_file}
use Rattle.droid_frame.specs.declared.item.Item.{Item}
use Rattle.droid_frame.specs.declared.item.Changes.{Changes}

-- whether two truth values are the same
abbrev pub same_truth : Bool → Bool → Bool
same_truth true b = b
same_truth false b = not b

-- whether two lengths differ; a length is compared only where both items have one
abbrev pub other_length : Option ℕ → Option ℕ → Bool
other_length (Some x) (Some y) = not (x == y)
other_length (Some x) None = false
other_length None b = false

-- whether two moments differ; a moment is compared only where both items have one
abbrev pub other_moment : Option (List ℕ) → Option (List ℕ) → Bool
other_moment (Some x) (Some y) = not (bytes_eq x y)
other_moment (Some x) None = false
other_moment None b = false

-- whether two hashes differ; a hash is compared only where both items have one of one kind
abbrev pub other_hash : HashValue → HashValue → Bool
other_hash x y =
    (hash_kind_number (hash_value_kind x) == hash_kind_number (hash_value_kind y))
    && not (bytes_eq (hash_bytes x) (hash_bytes y))

-- whether both items have a hash, of one kind: only then their bytes can be compared
abbrev pub both_hashed : Item → Item → Bool
both_hashed a b =
    not (hash_kind_number (hash_value_kind a.hash) == 0)
    && (hash_kind_number (hash_value_kind a.hash) == hash_kind_number (hash_value_kind b.hash))

-- whether both items have a length
abbrev pub both_known : Option ℕ → Option ℕ → Bool
both_known (Some x) (Some y) = true
both_known (Some x) None = false
both_known None b = false

-- both items have a length
abbrev pub both_sized : Item → Item → Bool
both_sized a b = both_known a.length b.length

-- what differs between an item and an item of the same path
abbrev pub changes_between : Item → Item → Changes
changes_between a b = record {
  kind = not (same_truth (is_file a.kind) (is_file b.kind));
  length = other_length a.length b.length;
  hash = other_hash a.hash b.hash;
}

-- whether anything differs
abbrev pub is_any : Changes → Bool
is_any changes = changes.kind || changes.length || changes.hash

-- whether an item is a file with this hash, which is one
abbrev pub bears : List ℕ → Item → Bool
bears hash item = is_file item.kind && not (length hash == 0) && bytes_eq hash (hash_bytes item.hash)
