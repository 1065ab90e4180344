-- The rooms for the first and the last bytes of a file.
use Rattle.std.specs.Prelude.{◌≡◌, ℕ, ◌-◌, ◌≤◌, min, vec_len, vec_capacity}
use Rattle.droid_hash.specs.Ends.{Ends}
use Rattle.droid_hash.specs.declared.end_bytes.EndBytes.TheInside.{Inside}

-- what is kept of the file
abbrev pub shown : Inside → Ends
shown kept = record {
  limit = kept.limit;
  size = kept.size;
  count = kept.count;
  first = kept.first.items;
  last = kept.last.items;
}

-- there is room for `limit` bytes of each end, and each end holds the bytes read of it
pub record HasRoom (kept : Inside) : Type 0 where
  pub first_room : kept.limit ≤ vec_capacity kept.first
  pub last_room : kept.limit ≤ vec_capacity kept.last
  pub counted : kept.count ≤ kept.size
  pub first_len : vec_len kept.first ≡ min (min kept.limit kept.size) kept.count
  pub last_len : vec_len kept.last ≡ kept.count - (kept.size - min kept.limit kept.size)
