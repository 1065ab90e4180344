-- For inner clauses and proofs: what stands at the front of a text, and the text between the marks of an item.
use Rattle.std.specs.Prelude.{◌≡◌, ℕ, ◌+◌, ◌≤◌, ◌<◌, ◌==◌, ◌||◌, Bool, true, List, [], ◌∷◌, ◌++◌, length}
use Rattle.std.specs.List.{AllByRecursion}
use Rattle.droid_pattern.specs.PatternText.{SpellsBytes}
use Rattle.droid_pattern.specs.Fronts.{SpellsInPair, SpellsInBraces, SpellsInBrackets}
use Rattle.droid_signature_file.specs.Terms.{Atom, Plain, Outside, Between, Quoted}
use Rattle.droid_signature_file.specs.TermText.{AreBounds, IsQuotable, SpellsAtoms, SpellsAlternatives}

-- The text begins with this, spelled so, with this text after it, and with nothing else.
pub record IsOnlyFront {X : Type 0} (Spells : List ℕ → X → Type 0) (text : List ℕ) (x : X) (rest : List ℕ)
    : Type 0 where
  pub front : List ℕ
  pub whole : text ≡ front ++ rest
  pub spelled : Spells front x
  pub only : (other : X) (start after : List ℕ) → text ≡ start ++ after → Spells start other
      → (other ≡ x) × (after ≡ rest)

-- the text begins with nothing that is spelled so
abbrev pub HasNoFront : {X : Type 0} → (List ℕ → X → Type 0) → List ℕ → Type 0
HasNoFront {X} Spells text = (x : X) (front rest : List ℕ) → text ≡ front ++ rest → Spells front x → ⊥

-- the text between braces
abbrev pub InBraces : List ℕ → Atom → Type 0
InBraces body (Plain e) = SpellsInBraces body e
InBraces body (Outside low high) = ⊥
InBraces body (Between low high) = ⊥
InBraces body (Quoted bytes) = ⊥

-- the text between brackets
abbrev pub InBrackets : List ℕ → Atom → Type 0
InBrackets body (Plain e) = SpellsInBrackets body e
InBrackets body (Outside low high) =
    (from : List ℕ) × (to : List ℕ) × (body ≡ 33 ∷ (from ++ (58 ∷ to))) × SpellsBytes from (low ∷ [])
    × SpellsBytes to (high ∷ []) × (low ≤ high) × (high < low + 255)
InBrackets body (Between low high) =
    (from : List ℕ) × (to : List ℕ) × (body ≡ from ++ (58 ∷ to)) × SpellsBytes from low × SpellsBytes to high
    × AreBounds low high
InBrackets body (Quoted bytes) = ⊥

-- the text between quotes
abbrev pub InQuotes : List ℕ → Atom → Type 0
InQuotes body (Plain e) = ⊥
InQuotes body (Outside low high) = ⊥
InQuotes body (Between low high) = ⊥
InQuotes body (Quoted bytes) = (body ≡ bytes) × (0 < length bytes) × AllByRecursion IsQuotable bytes

-- the item that two characters stand for
abbrev pub InPair : ℕ → ℕ → Atom → Type 0
InPair first second (Plain e) = SpellsInPair first second e
InPair first second (Outside low high) = ⊥
InPair first second (Between low high) = ⊥
InPair first second (Quoted bytes) = ⊥

-- whether no item can follow: the text ends, or a bar or a closing parenthesis stands there
abbrev pub is_stop : List ℕ → Bool
is_stop [] = true
is_stop (c ∷ rest) = (c == 124) || (c == 41)

-- items up to the rest of the text, where no item can follow
abbrev pub AtomsTo : List ℕ → List Atom → List ℕ → Type 0
AtomsTo text atoms rest = (front : List ℕ) × (text ≡ front ++ rest) × SpellsAtoms front atoms × (is_stop rest ≡ true)

-- alternatives, and a closing parenthesis before the rest
abbrev pub InParentheses : List ℕ → List (List Atom) → List ℕ → Type 0
InParentheses text alternatives rest =
    (body : List ℕ) × (text ≡ body ++ (41 ∷ rest)) × SpellsAlternatives body alternatives
