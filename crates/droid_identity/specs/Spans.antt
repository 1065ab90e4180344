-- For inner clauses and proofs: where a pattern matches in bytes at one end of a file, whatever the offsets of its byte
-- sequence are.
use Rattle.std.specs.Prelude.{ℕ, ◌+◌, ◌-◌, ◌≤◌, List, length, take, drop}
use Rattle.droid_pattern.specs.Patterns.{Element, Lang}
use Rattle.droid_pronom.specs.Finding.{part}
use Rattle.droid_pronom.specs.declared.rows.Anchor.{Anchor}
use Rattle.droid_pronom.specs.declared.rows.Anchor.TheVariants.{Bof, Eof}

-- the pattern matches `count` of the bytes, at this offset from the end that the anchor names
pub record IsAt (anchor : Anchor) (es : List Element) (bytes : List ℕ) (offset count : ℕ) : Type 0 where
  pub inside : offset + count ≤ length bytes
  pub matched : Lang es (part anchor bytes offset count)

-- it matches at an offset from low to high
pub record Between (anchor : Anchor) (es : List Element) (bytes : List ℕ) (low high : ℕ) : Type 0 where
  pub offset : ℕ
  pub count : ℕ
  pub from_low : low ≤ offset
  pub to_high : offset ≤ high
  pub there : IsAt anchor es bytes offset count

-- no match from low on has a lesser offset
abbrev pub IsLeast : Anchor → List Element → List ℕ → (low offset : ℕ) → Type 0
IsLeast anchor es bytes low offset = (other count : ℕ) → low ≤ other → IsAt anchor es bytes other count → offset ≤ other

-- a match at this offset lies within `reach` bytes of that end
pub record Reaches (anchor : Anchor) (es : List Element) (bytes : List ℕ) (offset reach : ℕ) : Type 0 where
  pub count : ℕ
  pub within : offset + count ≤ reach
  pub there : IsAt anchor es bytes offset count

-- no match at this offset reaches less far
abbrev pub IsLeastReach : Anchor → List Element → List ℕ → (offset reach : ℕ) → Type 0
IsLeastReach anchor es bytes offset reach = (count : ℕ) → IsAt anchor es bytes offset count → reach ≤ offset + count

-- the shortest match at this offset reaches so far
pub record IsReach (anchor : Anchor) (es : List Element) (bytes : List ℕ) (offset reach : ℕ) : Type 0 where
  pub beyond : offset ≤ reach
  pub there : IsAt anchor es bytes offset (reach - offset)
  pub least : IsLeastReach anchor es bytes offset reach

-- the match with the least offset from low to high has this offset
pub record IsFirst (anchor : Anchor) (es : List Element) (bytes : List ℕ) (low high offset : ℕ) : Type 0 where
  pub from_low : low ≤ offset
  pub to_high : offset ≤ high
  pub there : Between anchor es bytes offset offset
  pub least : IsLeast anchor es bytes low offset

-- the bytes at that end
abbrev pub near : Anchor → List ℕ → ℕ → List ℕ
near Bof bytes reach = take reach bytes
near Eof bytes reach = drop (length bytes - reach) bytes

-- all bytes but so many at that end
abbrev pub beyond : Anchor → List ℕ → ℕ → List ℕ
beyond Bof bytes count = drop count bytes
beyond Eof bytes count = take (length bytes - count) bytes
