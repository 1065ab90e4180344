-- The size of a row: the bytes of its texts and blobs, and 18 for each value. The limit is a billion bytes
-- (https://www.sqlite.org/limits.html, maximum length of a row).
use Rattle.std.specs.Prelude.{ℕ, ◌+◌, ◌*◌, ◌^◌, ◌≤◌, length}
use Rattle.droid_store.specs.declared.rows.Entry.{Entry}
use Rattle.droid_store.specs.Encoded.{joined}
use Rattle.droid_store.specs.Rows.{Node}

-- the size of a reply's row
abbrev pub entry_size : Entry → ℕ
entry_size e = 18 * 8 + length e.mark + length e.body

-- the size of a node's row
abbrev pub node_size : Node → ℕ
node_size n = 18 * 14 + length n.name + length n.path + length (joined n.puids) + length n.hash

-- a row of this size can be kept
abbrev pub FitsARow : ℕ → Type 0
FitsARow size = size ≤ 10 ^ 9
