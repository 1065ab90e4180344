-- What a pattern is made of, and which bytes it matches: a part of PRONOM's byte sequences.
use Rattle.std.specs.Prelude.{◌≡◌, ◌≢◌, ℕ, ◌+◌, ◌-◌, ◌≤◌, Bool, true, false, not, List, [], ◌∷◌, ◌++◌, length, take}
use Rattle.std.specs.Prelude.{drop, Contains}
use Rattle.std.specs.List.{list_any}

-- an element of a pattern
pub data Element : Type 0 where
  Byte : (byte : ℕ) → Element
  AnyByte : Element
  Gap : (least most : ℕ) → Element
  OpenGap : (least : ℕ) → Element
  Range : (low high : ℕ) → Element
  Except : (byte : ℕ) → Element
  Choice : (alternatives : List (List ℕ)) → Element

-- the bytes that one element matches
abbrev pub Matches : Element → List ℕ → Type 0
-- that byte
Matches (Byte b) bytes = bytes ≡ b ∷ []
-- any one byte
Matches AnyByte bytes = length bytes ≡ 1
-- any bytes, from `least` to `most` of them
Matches (Gap least most) bytes = (least ≤ length bytes) × (length bytes ≤ most)
-- any bytes, `least` of them or more
Matches (OpenGap least) bytes = least ≤ length bytes
-- one byte from the low to the high one, both included
Matches (Range low high) bytes = (x : ℕ) × (bytes ≡ x ∷ []) × (low ≤ x) × (x ≤ high)
-- one byte other than that
Matches (Except b) bytes = (x : ℕ) × (bytes ≡ x ∷ []) × (x ≢ b)
-- one of the alternatives
Matches (Choice alternatives) bytes = Contains alternatives bytes

-- The bytes that a pattern matches: they can be cut into one part for each element, so that each element matches its
-- part.
abbrev pub Lang : List Element → List ℕ → Type 0
Lang [] bytes = bytes ≡ []
Lang (e ∷ es) bytes = (front : List ℕ) × (back : List ℕ) × (bytes ≡ front ++ back) × Matches e front × Lang es back

-- a match begins at this position
pub record MatchesFrom (es : List Element) (bytes : List ℕ) (at : ℕ) : Type 0 where
  pub count : ℕ
  pub inside : at + count ≤ length bytes
  pub matched : Lang es (take count (drop at bytes))

-- a match ends just before this position
pub record MatchesTo (es : List Element) (bytes : List ℕ) (end : ℕ) : Type 0 where
  pub count : ℕ
  pub inside : count ≤ end
  pub matched : Lang es (take count (drop (end - count) bytes))

-- a match begins at an offset from low to high
pub record BeginsWithin (es : List Element) (bytes : List ℕ) (low high : ℕ) : Type 0 where
  pub offset : ℕ
  pub count : ℕ
  pub from_low : low ≤ offset
  pub to_high : offset ≤ high
  pub inside : offset + count ≤ length bytes
  pub matched : Lang es (take count (drop offset bytes))

-- a match ends at an offset from low to high before the end of the bytes
pub record EndsWithin (es : List Element) (bytes : List ℕ) (low high : ℕ) : Type 0 where
  pub offset : ℕ
  pub count : ℕ
  pub from_low : low ≤ offset
  pub to_high : offset ≤ high
  pub inside : offset + count ≤ length bytes
  pub matched : Lang es (take count (drop (length bytes - (offset + count)) bytes))

-- whether an element is a gap, which may match no byte
abbrev pub is_gap : Element → Bool
is_gap (Byte b) = false
is_gap AnyByte = false
is_gap (Gap least most) = true
is_gap (OpenGap least) = true
is_gap (Range low high) = false
is_gap (Except b) = false
is_gap (Choice alternatives) = false

-- at least one element is not a gap, so that a match has at least one byte
abbrev pub has_byte : List Element → Bool
has_byte es = list_any (λ e. not (is_gap e)) es
