-- What the text of a Sequence or a fragment is made of, and which bytes it stands for (the syntax of DROID's signature
-- files).
use Rattle.std.specs.Prelude.{◌≡◌, ◌⊎◌, ℕ, ◌+◌, ◌*◌, ◌≤◌, ◌<◌, List, [], ◌∷◌, ◌++◌, length}
use Rattle.std.specs.List.{AllByRecursion}
use Rattle.droid_pattern.specs.Patterns.{Element, Matches}

-- one item of a text: an element of a registry's pattern, one byte outside a range, a range of several bytes, or quoted
-- text
pub data Atom : Type 0 where
  Plain : (element : Element) → Atom
  Outside : (low high : ℕ) → Atom
  Between : (low high : List ℕ) → Atom
  Quoted : (bytes : List ℕ) → Atom

-- one item, or one of several lists of items
pub data Term : Type 0 where
  One : (atom : Atom) → Term
  OneOf : (alternatives : List (List Atom)) → Term

-- the bytes are a front that satisfies P and a rest that satisfies Q
abbrev pub InTurn : (P Q : List ℕ → Type 0) → List ℕ → Type 0
InTurn P Q bytes = (front : List ℕ) × (back : List ℕ) × (bytes ≡ front ++ back) × P front × Q back

-- what bytes stand for as a big-endian number, after bytes that stand for n
abbrev pub number_after : ℕ → List ℕ → ℕ
number_after n [] = n
number_after n (b ∷ bytes) = number_after (256 * n + b) bytes

-- each item is a byte
abbrev pub AreBytes : List ℕ → Type 0
AreBytes bytes = AllByRecursion (λ b. b < 256) bytes

-- as many bytes as in the bounds, whose big-endian number is one from the low to the high one, both included
pub record IsBetween (low high bytes : List ℕ) : Type 0 where
  pub long : length bytes ≡ length low
  pub each : AreBytes bytes
  pub from_low : number_after 0 low ≤ number_after 0 bytes
  pub to_high : number_after 0 bytes ≤ number_after 0 high

-- the bytes that one item stands for
abbrev pub AtomMatches : Atom → List ℕ → Type 0
-- what the element matches
AtomMatches (Plain e) bytes = Matches e bytes
-- one byte below the low or above the high one
AtomMatches (Outside low high) bytes = (x : ℕ) × (bytes ≡ x ∷ []) × (x < 256) × ((x < low) ⊎ (high < x))
-- bytes of a range
AtomMatches (Between low high) bytes = IsBetween low high bytes
-- these bytes
AtomMatches (Quoted text) bytes = bytes ≡ text

-- the bytes that items stand for: they can be cut into one part for each item
abbrev pub AtomsMatch : List Atom → List ℕ → Type 0
AtomsMatch [] bytes = bytes ≡ []
AtomsMatch (a ∷ atoms) bytes = InTurn (AtomMatches a) (AtomsMatch atoms) bytes

-- one of the alternatives stands for the bytes
abbrev pub AlternativesMatch : List (List Atom) → List ℕ → Type 0
AlternativesMatch [] bytes = ⊥
AlternativesMatch (atoms ∷ more) bytes = AtomsMatch atoms bytes ⊎ AlternativesMatch more bytes

-- the bytes that one term stands for
abbrev pub TermMatches : Term → List ℕ → Type 0
TermMatches (One a) bytes = AtomMatches a bytes
TermMatches (OneOf alternatives) bytes = AlternativesMatch alternatives bytes

-- the bytes that a text's terms stand for
abbrev pub TermsMatch : List Term → List ℕ → Type 0
TermsMatch [] bytes = bytes ≡ []
TermsMatch (t ∷ terms) bytes = InTurn (TermMatches t) (TermsMatch terms) bytes
