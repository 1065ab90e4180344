-- Terms as patterns of a registry: bytes match the terms exactly if they match one of the patterns.
use Rattle.std.specs.Prelude.{ℕ, ◌+◌, ◌-◌, ◌==◌, ◌⊎◌, nat_lt, zero, suc, List, [], ◌∷◌, ◌++◌, length, map, Option, Some}
use Rattle.std.specs.Prelude.{None, option_map, if◌then◌else◌}
use Rattle.droid_pattern.specs.Patterns.{Element, Byte, AnyByte, Gap, OpenGap, Range, Except, Choice, Lang}
use Rattle.droid_signature_file.specs.Terms.{Atom, Plain, Outside, Between, Quoted, Term, One, OneOf}

-- one of the patterns matches the bytes
abbrev pub MatchesAny : List (List Element) → List ℕ → Type 0
MatchesAny [] bytes = ⊥
MatchesAny (es ∷ more) bytes = Lang es bytes ⊎ MatchesAny more bytes

-- each pattern of the first list with each of the second behind it
abbrev pub joined : List (List Element) → List (List Element) → List (List Element)
joined [] seconds = []
joined (first ∷ firsts) seconds = map (λ second. first ++ second) seconds ++ joined firsts seconds

-- `count` numbers, from n on
abbrev pub upward : ℕ → ℕ → List ℕ
upward n zero = []
upward n (suc count) = n ∷ upward (suc n) count

-- the bytes below the low or above the high one, as runs of one byte
abbrev pub runs_outside : (low high : ℕ) → List (List ℕ)
runs_outside low high = map (λ b. b ∷ []) (upward 0 low ++ upward (high + 1) (255 - high))

-- a byte in front of each pattern
abbrev pub with_byte : ℕ → List (List Element) → List (List Element)
with_byte b patterns = map (λ es. Byte b ∷ es) patterns

-- any `count` bytes
abbrev pub any_bytes : ℕ → List Element
any_bytes zero = []
any_bytes (suc count) = Range 0 255 ∷ any_bytes count

-- a byte from `low` on and less than `end`, if there is one, and `count` bytes behind it
abbrev pub range_before : (low end count : ℕ) → List (List Element)
range_before low end count = if nat_lt low end then (Range low (end - 1) ∷ any_bytes count) ∷ [] else []

-- as many bytes as there are, and no less in number
abbrev pub upward_from : List ℕ → List (List Element)
upward_from [] = [] ∷ []
upward_from (l ∷ low) = with_byte l (upward_from low) ++ range_before (l + 1) 256 (length low)

-- as many bytes as there are, and no more in number
abbrev pub up_to : List ℕ → List (List Element)
up_to [] = [] ∷ []
up_to (h ∷ high) = range_before 0 h (length high) ++ with_byte h (up_to high)

-- bytes of a range of several bytes: those that begin as the low bound, those between, those that begin as the high
-- bound
abbrev pub ranges : (low high : List ℕ) → List (List Element)
ranges [] [] = [] ∷ []
ranges [] (h ∷ high) = []
ranges (l ∷ low) [] = []
ranges (l ∷ low) (h ∷ high) =
    if l == h then with_byte l (ranges low high)
    else with_byte l (upward_from low) ++ range_before (l + 1) h (length low) ++ with_byte h (up_to high)

-- the patterns of one item
abbrev pub patterns_of_atom : Atom → List (List Element)
patterns_of_atom (Plain e) = (e ∷ []) ∷ []
patterns_of_atom (Outside low high) = (Choice (runs_outside low high) ∷ []) ∷ []
patterns_of_atom (Between low high) = ranges low high
patterns_of_atom (Quoted bytes) = map Byte bytes ∷ []

-- the patterns of items one behind the other
abbrev pub patterns_of_atoms : List Atom → List (List Element)
patterns_of_atoms [] = [] ∷ []
patterns_of_atoms (a ∷ atoms) = joined (patterns_of_atom a) (patterns_of_atoms atoms)

-- the bytes of items that stand for one run of bytes
abbrev pub run_of : List Atom → Option (List ℕ)
run_of [] = Some []
run_of (Plain (Byte b) ∷ atoms) = option_map (λ bytes. b ∷ bytes) (run_of atoms)
run_of (Plain AnyByte ∷ atoms) = None
run_of (Plain (Gap least most) ∷ atoms) = None
run_of (Plain (OpenGap least) ∷ atoms) = None
run_of (Plain (Range low high) ∷ atoms) = None
run_of (Plain (Except b) ∷ atoms) = None
run_of (Plain (Choice alternatives) ∷ atoms) = None
run_of (Outside low high ∷ atoms) = None
run_of (Between low high ∷ atoms) = None
run_of (Quoted text ∷ atoms) = option_map (λ bytes. text ++ bytes) (run_of atoms)

-- one run in front of the others, if all are runs
abbrev pub with_run : Option (List ℕ) → Option (List (List ℕ)) → Option (List (List ℕ))
with_run None runs = None
with_run (Some run) runs = option_map (λ more. run ∷ more) runs

-- the runs of bytes that the alternatives are, if each of them is one
abbrev pub runs_of : List (List Atom) → Option (List (List ℕ))
runs_of [] = Some []
runs_of (atoms ∷ more) = with_run (run_of atoms) (runs_of more)

-- the patterns of each alternative
abbrev pub patterns_of_each : List (List Atom) → List (List Element)
patterns_of_each [] = []
patterns_of_each (atoms ∷ more) = patterns_of_atoms atoms ++ patterns_of_each more

-- alternatives are one element if all are runs of bytes, and else patterns each
abbrev pub patterns_of_choice : Option (List (List ℕ)) → List (List Atom) → List (List Element)
patterns_of_choice (Some runs) alternatives = (Choice runs ∷ []) ∷ []
patterns_of_choice None alternatives = patterns_of_each alternatives

-- the patterns of one term
abbrev pub patterns_of_term : Term → List (List Element)
patterns_of_term (One a) = patterns_of_atom a
patterns_of_term (OneOf alternatives) = patterns_of_choice (runs_of alternatives) alternatives

-- the patterns of terms one behind the other
abbrev pub patterns_of : List Term → List (List Element)
patterns_of [] = [] ∷ []
patterns_of (t ∷ terms) = joined (patterns_of_term t) (patterns_of terms)
