-- How this project writes a pattern: the shortest of its texts, with digits in upper case.
use Rattle.std.specs.Prelude.{ℕ, zero, suc, ◌+◌, ◌≤◌, ◌<◌, ◌/◌, ◌%◌, ◌==◌, nat_lt, List, [], ◌∷◌, ◌++◌, length, map}
use Rattle.std.specs.Prelude.{codes, decimal, if◌then◌else◌, ⊤, Bool, true, false}
use Rattle.std.specs.List.{flat_map, AllByRecursion}
use Rattle.droid_pattern.specs.Patterns.{Element, Byte, AnyByte, Gap, OpenGap, Range, Except, Choice}
use Rattle.droid_signature_file.specs.Terms.{Atom, Plain, Outside, Between, Quoted, AreBytes}
use Rattle.droid_signature_file.specs.Expansions.{runs_outside}

-- a hexadecimal digit
abbrev pub digit : ℕ → ℕ
digit n = if nat_lt n 10 then 48 + n else 55 + n

-- a byte
abbrev pub pair : ℕ → List ℕ
pair b = digit (b / 16) ∷ digit (b % 16) ∷ []

-- a gap with an upper limit
abbrev pub gap : ℕ → ℕ → List ℕ
gap n m = if n == m then 123 ∷ (decimal n ++ 125 ∷ []) else 123 ∷ (decimal n ++ (45 ∷ (decimal m ++ 125 ∷ [])))

-- a gap without one
abbrev pub open_gap : ℕ → List ℕ
open_gap n = if n == 0 then 42 ∷ [] else 123 ∷ (decimal n ++ codes "-*}")

-- the texts of items, each behind a mark: one before the first, and a bar before each other
abbrev pub marked : {X : Type 0} → (X → List ℕ) → ℕ → List X → List ℕ
marked text mark [] = []
marked text mark (x ∷ xs) = mark ∷ (text x ++ marked text 124 xs)

-- the mark behind a number of items, from the mark before the first
abbrev pub next_mark : ℕ → ℕ → ℕ
next_mark mark zero = mark
next_mark mark (suc count) = 124

-- an element
abbrev pub written : Element → List ℕ
written (Byte b) = pair b
written AnyByte = codes "??"
written (Gap n m) = gap n m
written (OpenGap n) = open_gap n
written (Range low high) = 91 ∷ (pair low ++ (58 ∷ (pair high ++ 93 ∷ [])))
written (Except b) = 91 ∷ 33 ∷ (pair b ++ 93 ∷ [])
written (Choice runs) = marked (flat_map pair) 40 runs ++ 41 ∷ []

-- a pattern
abbrev pub written_all : List Element → List ℕ
written_all es = flat_map written es

-- patterns
abbrev pub written_each : List (List Element) → List (List ℕ)
written_each patterns = map written_all patterns

-- patterns behind a text
abbrev pub behind : List ℕ → List (List Element) → List (List ℕ)
behind front patterns = map (λ es. front ++ written_all es) patterns

-- the text of an item that one pattern stands for: any but a range of several bytes
abbrev pub one_text : Atom → List ℕ
one_text (Plain e) = written e
one_text (Outside low high) = written (Choice (runs_outside low high))
one_text (Between low high) = []
one_text (Quoted bytes) = flat_map pair bytes

-- whether an item is a run of bytes
abbrev pub is_run : Atom → Bool
is_run (Plain (Byte b)) = true
is_run (Plain AnyByte) = false
is_run (Plain (Gap least most)) = false
is_run (Plain (OpenGap least)) = false
is_run (Plain (Range low high)) = false
is_run (Plain (Except b)) = false
is_run (Plain (Choice alternatives)) = false
is_run (Outside low high) = false
is_run (Between low high) = false
is_run (Quoted bytes) = true

-- an element that a text can spell
abbrev pub IsWritable : Element → Type 0
IsWritable (Byte b) = b < 256
IsWritable AnyByte = ⊤
IsWritable (Gap n m) = (n ≤ m) × (m ≤ 65535)
IsWritable (OpenGap n) = n ≤ 65535
IsWritable (Range low high) = (low ≤ high) × (high < 256)
IsWritable (Except b) = b < 256
IsWritable (Choice runs) = (0 < length runs) × AllByRecursion (λ run. (0 < length run) × AreBytes run) runs

-- a pattern that a text can spell
abbrev pub AreWritable : List Element → Type 0
AreWritable es = AllByRecursion IsWritable es

-- patterns that texts can spell
abbrev pub AreAllWritable : List (List Element) → Type 0
AreAllWritable patterns = AllByRecursion AreWritable patterns
