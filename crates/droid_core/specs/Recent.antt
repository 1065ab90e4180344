-- The cache of kept replies, in which a service looks before it asks the store (this project's own).
use Rattle.std.specs.Prelude.{◌≡◌, ℕ, nat_eq, ◌&&◌, Bool, List, Some, is_some, option_map}
use Rattle.std.specs.List.{Contains}
use Rattle.std.specs.Map.{lookup}
use Rattle.droid_core_spec.specs.Histories.{History, kept}
use Rattle.droid_core.specs.Replies.{entry_row}
use Rattle.droid_store.specs.declared.rows.Entry as rows

-- a client, and one of its numbers
abbrev pub Whose : Type 0
Whose = ℕ × ℕ

-- the same client and the same number
abbrev pub is_same : Whose → Whose → Bool
is_same one other = nat_eq one.0 other.0 && nat_eq one.1 other.1

-- the row is that of the entry which the history keeps under this client and this number
abbrev pub IsKeptRow : History → Whose → rows.Entry → Type 0
IsKeptRow history whose row = option_map entry_row (kept history whose.0 whose.1) ≡ Some row

-- each cached row is that of the history's entry under its client and number
abbrev pub AreKept : History → List (Whose × rows.Entry) → Type 0
AreKept history pairs = (pair : Whose × rows.Entry) → Contains pairs pair → IsKeptRow history pair.0 pair.1

-- whether a row is cached under this client and this number
abbrev pub is_cached_in : List (Whose × rows.Entry) → ℕ → ℕ → Bool
is_cached_in pairs client number = is_some (lookup (is_same (client, number)) pairs)
