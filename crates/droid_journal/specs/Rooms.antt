-- Room for bytes, which no write fails within (this project's own).
use Rattle.std.specs.Prelude.{ℕ, ◌+◌, ◌≤◌, List, vec_capacity, vec_len}
use Rattle.droid_journal.specs.declared.room.Room.TheInside.{Inside}

-- bytes, and for how many more there is room
pub record Roomy : Type 0 where
  pub items : List ℕ
  pub left : ℕ

-- the bytes, and the room that is left for more
abbrev pub shown : Inside → Roomy
shown room = record { items = room.bytes.items; left = room.left }

-- the memory for them is there
abbrev pub HasRoom : Inside → Type 0
HasRoom room = vec_len room.bytes + room.left ≤ vec_capacity room.bytes
