-- How the text of a Sequence or a fragment is written. What a registry's pattern has is written as there.
use Rattle.std.specs.Prelude.{◌≡◌, ◌≢◌, ℕ, ◌+◌, ◌≤◌, ◌<◌, ⊤, List, [], ◌∷◌, ◌++◌, length, codes}
use Rattle.std.specs.List.{AllByRecursion}
use Rattle.droid_pattern.specs.Patterns.{Element, Byte, AnyByte, Gap, OpenGap, Range, Except, Choice}
use Rattle.droid_pattern.specs.PatternText.{SpellsBytes, SpellsElement}
use Rattle.droid_signature_file.specs.Terms.{Atom, Plain, Outside, Between, Quoted, Term, One, OneOf, number_after}

-- an element that a text writes as a registry's pattern does: any but alternatives, which may have more between their
-- bars
abbrev pub IsPlain : Element → Type 0
IsPlain (Byte b) = ⊤
IsPlain AnyByte = ⊤
IsPlain (Gap least most) = ⊤
IsPlain (OpenGap least) = ⊤
IsPlain (Range low high) = ⊤
IsPlain (Except b) = ⊤
IsPlain (Choice alternatives) = ⊥

-- The bounds of a range of several bytes: as many bytes each, the low one at most the high one.
pub record AreBounds (low high : List ℕ) : Type 0 where
  pub several : 1 < length low
  pub same : length low ≡ length high
  pub ordered : number_after 0 low ≤ number_after 0 high

-- a character of quoted text: ASCII, and no quote
abbrev pub IsQuotable : ℕ → Type 0
IsQuotable c = (c < 128) × (c ≢ 39)

-- The text of one item: as in a registry's pattern, or `[!61:7A]`, `[0100:0300]`, `'text'`.
abbrev pub SpellsAtom : List ℕ → Atom → Type 0
SpellsAtom text (Plain e) = SpellsElement text e × IsPlain e
SpellsAtom text (Outside low high) =
    (from : List ℕ) × (to : List ℕ) × (text ≡ codes "[!" ++ from ++ (codes ":" ++ to) ++ codes "]")
    × SpellsBytes from (low ∷ []) × SpellsBytes to (high ∷ []) × (low ≤ high) × (high < low + 255)
SpellsAtom text (Between low high) =
    (from : List ℕ) × (to : List ℕ) × (text ≡ codes "[" ++ from ++ (codes ":" ++ to) ++ codes "]")
    × SpellsBytes from low × SpellsBytes to high × AreBounds low high
SpellsAtom text (Quoted bytes) =
    (text ≡ codes "'" ++ bytes ++ codes "'") × (0 < length bytes) × AllByRecursion IsQuotable bytes

-- the texts of items, one after another
abbrev pub SpellsAtoms : List ℕ → List Atom → Type 0
SpellsAtoms text [] = text ≡ []
SpellsAtoms text (a ∷ atoms) =
    (front : List ℕ) × (back : List ℕ) × (text ≡ front ++ back) × SpellsAtom front a × SpellsAtoms back atoms

-- one or more alternatives of one or more items each, separated by `|`
abbrev pub SpellsAlternatives : List ℕ → List (List Atom) → Type 0
SpellsAlternatives text [] = ⊥
SpellsAlternatives text (a ∷ []) = SpellsAtoms text a × (0 < length a)
SpellsAlternatives text (a ∷ b ∷ more) =
    (first : List ℕ) × (rest : List ℕ) × (text ≡ first ++ (codes "|" ++ rest)) × SpellsAtoms first a × (0 < length a)
    × SpellsAlternatives rest (b ∷ more)

-- the text of a term: an item, or alternatives in parentheses
abbrev pub SpellsTerm : List ℕ → Term → Type 0
SpellsTerm text (One a) = SpellsAtom text a
SpellsTerm text (OneOf alternatives) =
    (body : List ℕ) × (text ≡ codes "(" ++ body ++ codes ")") × SpellsAlternatives body alternatives

-- the texts of terms, one after another
abbrev pub SpellsTerms : List ℕ → List Term → Type 0
SpellsTerms text [] = text ≡ []
SpellsTerms text (t ∷ terms) =
    (front : List ℕ) × (back : List ℕ) × (text ≡ front ++ back) × SpellsTerm front t × SpellsTerms back terms
