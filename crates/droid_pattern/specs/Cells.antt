-- The compact form of a pattern: three bytes for each element or run of stars, and a pool for what doesn't fit into
-- three bytes.
use Rattle.std.specs.Prelude.{ℕ, zero, suc, ◌+◌, ◌*◌, ◌/◌, ◌%◌, List, [], ◌∷◌, ◌++◌, length, take, drop, replicate}
use Rattle.std.specs.List.{flat_map}
use Rattle.droid_pattern.specs.declared.short.Short.{Short}
use Rattle.droid_pattern.specs.declared.cell.Cell.{Cell}
use Rattle.droid_pattern.specs.declared.cell.Cell.TheVariants as cells
use Rattle.droid_pattern.specs.declared.compact_form.Packed.{Packed}
use Rattle.droid_pattern.specs.Patterns.{Element, Byte, AnyByte, Gap, OpenGap, Range, Except, Choice}

-- the number that two bytes stand for
abbrev pub number_of : Short → ℕ
number_of short = 256 * short.high + short.low

-- the two bytes of a number
abbrev pub number_bytes : ℕ → List ℕ
number_bytes n = n / 256 ∷ n % 256 ∷ []

-- the number in the first two bytes
abbrev pub front_number : List ℕ → ℕ
front_number [] = 0
front_number (x ∷ []) = 0
front_number (high ∷ low ∷ rest) = 256 * high + low

-- the first `count` runs of bytes, each after its length
abbrev pub runs_in : ℕ → List ℕ → List (List ℕ)
runs_in zero bytes = []
runs_in (suc count) bytes =
    take (front_number bytes) (drop 2 bytes) ∷ runs_in count (drop (front_number bytes) (drop 2 bytes))

-- the alternatives, after their number
abbrev pub alternatives_in : List ℕ → List (List ℕ)
alternatives_in bytes = runs_in (front_number bytes) (drop 2 bytes)

-- the bytes of a run with its length
abbrev pub run_bytes : List ℕ → List ℕ
run_bytes run = number_bytes (length run) ++ run

-- the bytes of a choice: the number of alternatives, and then each with its length
abbrev pub choice_bytes : List (List ℕ) → List ℕ
choice_bytes alternatives = number_bytes (length alternatives) ++ flat_map run_bytes alternatives

-- a gap, from its least length and the number of further bytes that it may have
abbrev pub gap_in : List ℕ → Element
gap_in bytes = Gap (front_number bytes) (front_number bytes + front_number (drop 2 bytes))

-- the element that a cell stands for, once or several times
abbrev pub element_at : List ℕ → Cell → Element
element_at pool (cells.Byte b) = Byte b
element_at pool (cells.Range low high) = Range low high
element_at pool (cells.Except b) = Except b
element_at pool cells.AnyByte = AnyByte
element_at pool (cells.OpenGap least) = OpenGap (number_of least)
element_at pool (cells.Stars more) = OpenGap 0
element_at pool (cells.Gap at) = gap_in (drop (number_of at) pool)
element_at pool (cells.Choice at) = Choice (alternatives_in (drop (number_of at) pool))

-- how many more times: only stars are joined
abbrev pub more_of : Cell → ℕ
more_of (cells.Byte b) = 0
more_of (cells.Range low high) = 0
more_of (cells.Except b) = 0
more_of cells.AnyByte = 0
more_of (cells.OpenGap least) = 0
more_of (cells.Stars more) = number_of more
more_of (cells.Gap at) = 0
more_of (cells.Choice at) = 0

-- the elements that a cell stands for
abbrev pub elements_at : List ℕ → Cell → List Element
elements_at pool cell = element_at pool cell ∷ replicate (more_of cell) (element_at pool cell)

-- the elements of a pattern
abbrev pub elements_of : Packed → List Element
elements_of packed = flat_map (elements_at packed.pool.items) packed.cells.items
