-- What one write adds to what a writer did, for how many bytes it has room, and what writes leave of known bytes.
use Rattle.std.specs.Prelude.{◌≡◌, ℕ, ◌+◌, ◌-◌, ◌<◌, ◌≤◌, ◌⊎◌, List, Option, Some, None, Result, Ok, Err, length, take}
use Rattle.std.specs.Io.KnownBytes.{Appends}
use Rattle.std.specs.declared.io.Error.{Error}
use Rattle.droid_frame.specs.declared.io.stream_record.Seen.{Seen}
use Rattle.droid_frame.specs.Seen.{AddsError, Counts, GivesUp, Lasts, after_failure}

-- there is room for `count` bytes; `None` is a writer whose room has no end or isn't known
abbrev pub HasRoom : Option ℕ → ℕ → Type 0
HasRoom None count = Unit {0}
HasRoom (Some room) count = count ≤ room

-- there is room for fewer than `count` bytes
abbrev pub LacksRoom : Option ℕ → ℕ → Type 0
LacksRoom None count = ⊥
LacksRoom (Some room) count = room < count

-- the room shrank by `count` bytes, or it has no end before and after
abbrev pub Takes : Option ℕ → Option ℕ → ℕ → Type 0
Takes None None count = Unit {0}
Takes None (Some after) count = ⊥
Takes (Some before) None count = ⊥
Takes (Some before) (Some after) count = before ≡ after + count

-- what a write of `length` bytes adds that took `count` of them: taking none of some is a failure, unless there is no
-- room
pub record AddsTaken (old new : Seen) (room : Option ℕ) (length count : ℕ) : Type 0 where
  pub taken : 0 < count → new ≡ old
  pub nothing : length ≡ 0 → new ≡ old
  pub full : room ≡ Some 0 → new ≡ old
  pub failure : count ≡ 0 → 0 < length → (room ≡ Some 0 → ⊥) → new ≡ after_failure old

-- what a write of a sound writer adds
abbrev pub AddsWrite : Seen → Seen → Option ℕ → ℕ → Result ℕ Error → Type 0
AddsWrite old new room length (Ok count) = AddsTaken old new room length count
AddsWrite old new room length (Err error) = AddsError old new error

-- what a write leaves of the room
abbrev pub LeavesRoom : Option ℕ → Option ℕ → Result ℕ Error → Type 0
LeavesRoom old new (Ok count) = Takes old new count
LeavesRoom old new (Err error) = Takes old new 0

-- ---- one frame or text

-- a writer that lasts has no room left
pub record IsFull (start : ℕ) (seen : Seen) (room : Option ℕ) : Type 0 where
  pub lasts : Lasts start seen
  pub full : room ≡ Some 0

-- a writer stops: it is given up, or has no room left
abbrev pub WriterStops : ℕ → Seen → Option ℕ → Type 0
WriterStops start seen room = GivesUp start seen ⊎ IsFull start seen room

-- after a call the count goes on, or the writer stops
abbrev pub WritesOn : {T E : Type 0} → ℕ → Seen → Option ℕ → ℕ → Result T E → Type 0
WritesOn start seen room count (Ok value) = Counts start seen count
WritesOn start seen room count (Err fault) = WriterStops start seen room

-- known bytes grew by exactly the first of `bytes`, but not all; the count of written bytes went from `before` to
-- `count`
pub record StopsWithin (old new : Option (List ℕ)) (bytes : List ℕ) (before count : ℕ) : Type 0 where
  pub counts_on : before ≤ count
  pub some_left : count - before < length bytes
  pub front : Appends old new (take (count - before) bytes)

-- a call reports a fault exactly where the writer is given up, or lasts and had room for fewer than `size` bytes; where
-- all bytes were written, it lasts and had room for them
pub record ReportsWrite (start : ℕ) (seen : Seen) (room : Option ℕ) (size : ℕ) (is_fault : Type 0) : Type 0 where
  pub fault : is_fault → GivesUp start seen ⊎ (Lasts start seen × LacksRoom room size)
  pub otherwise : (is_fault → ⊥) → Lasts start seen × HasRoom room size
