-- Rows that can be read back: numbers in the range of their types (of requests below 2^63), texts in UTF-8, marks of
-- 16 bytes, hashes of the length of their kind.
use Rattle.std.specs.Prelude.{◌≡◌, ◌==◌, ◌||◌, ◌<◌, ◌^◌, ℕ, Bool, IsTrue, length, IsUtf8}
use Rattle.std.specs.List.{AllByRecursion}
use Rattle.droid_store.specs.declared.rows.Entry.{Entry}
use Rattle.droid_store.specs.declared.rows.ProfileRow.{ProfileRow}
use Rattle.droid_store.specs.Encoded.{joined}
use Rattle.droid_store.specs.Rows.{Node, Rows}

-- 0 bytes for no hash, 16 for an MD5, 32 for a SHA-256
abbrev pub is_hash_length : ℕ → Bool
is_hash_length n = (n == 0) || ((n == 16) || (n == 32))

-- a profile that can be read back
pub record ProfileFits (p : ProfileRow) : Type 0 where
  pub scan_limit : p.scan_limit < 2 ^ 32
  pub nodes : p.nodes < 2 ^ 32

-- a node that can be read back
pub record NodeFits (n : Node) : Type 0 where
  pub id : n.id < 2 ^ 32
  pub parent : n.parent < 2 ^ 32
  pub piece_size : n.piece_size < 2 ^ 32
  pub name : IsUtf8 n.name
  pub path : IsUtf8 n.path
  pub formats : IsUtf8 (joined n.puids)
  pub hash : IsTrue (is_hash_length (length n.hash))

-- a reply that can be read back
pub record EntryFits (e : Entry) : Type 0 where
  pub number : e.number < 2 ^ 63
  pub version : e.version < 2 ^ 8
  pub kind : e.kind < 2 ^ 8
  pub mark : length e.mark ≡ 16

-- all rows can be read back
pub record AreReadable (rows : Rows) : Type 0 where
  pub profiles : AllByRecursion ProfileFits rows.profiles
  pub nodes : AllByRecursion NodeFits rows.nodes
  pub replies : AllByRecursion EntryFits rows.replies
