-- The element at the front of a text, and the text between the marks of an element.
use Rattle.std.specs.Prelude.{◌≡◌, ℕ, ◌≤◌, List, [], ◌∷◌, ◌++◌, codes}
use Rattle.droid_pattern.specs.Patterns.{Element, Byte, AnyByte, Gap, OpenGap, Range, Except, Choice}
use Rattle.droid_pattern.specs.PatternText.{IsPair, IsNumber, SpellsBytes, SpellsGap, SpellsElement}

-- The text begins with this element, with this text after it, and with no other.
pub record IsOnlyFront (text : List ℕ) (e : Element) (rest : List ℕ) : Type 0 where
  pub front : List ℕ
  pub whole : text ≡ front ++ rest
  pub spelled : SpellsElement front e
  pub only : (other : Element) (start after : List ℕ) → text ≡ start ++ after → SpellsElement start other
      → (other ≡ e) × (after ≡ rest)

-- the text begins with no element
abbrev pub HasNoFront : List ℕ → Type 0
HasNoFront text = (e : Element) (front rest : List ℕ) → text ≡ front ++ rest → SpellsElement front e → ⊥

-- the text between braces
abbrev pub SpellsInBraces : List ℕ → Element → Type 0
SpellsInBraces body (Gap n m) = SpellsGap body n m
SpellsInBraces body (OpenGap n) = (digits : List ℕ) × (body ≡ digits ++ codes "-*") × IsNumber digits n
SpellsInBraces body (Byte b) = ⊥
SpellsInBraces body AnyByte = ⊥
SpellsInBraces body (Range low high) = ⊥
SpellsInBraces body (Except b) = ⊥
SpellsInBraces body (Choice alternatives) = ⊥

-- the text between brackets
abbrev pub SpellsInBrackets : List ℕ → Element → Type 0
SpellsInBrackets body (Range low high) =
    (from : List ℕ) × (to : List ℕ) × (body ≡ from ++ (codes ":" ++ to)) × SpellsBytes from (low ∷ [])
    × SpellsBytes to (high ∷ []) × (low ≤ high)
SpellsInBrackets body (Except b) = (digits : List ℕ) × (body ≡ codes "!" ++ digits) × SpellsBytes digits (b ∷ [])
SpellsInBrackets body (Byte b) = ⊥
SpellsInBrackets body AnyByte = ⊥
SpellsInBrackets body (Gap n m) = ⊥
SpellsInBrackets body (OpenGap n) = ⊥
SpellsInBrackets body (Choice alternatives) = ⊥

-- the element that two characters stand for
abbrev pub SpellsInPair : ℕ → ℕ → Element → Type 0
SpellsInPair first second (Byte b) = IsPair first second b
SpellsInPair first second AnyByte = (first ≡ 63) × (second ≡ 63)
SpellsInPair first second (Gap n m) = ⊥
SpellsInPair first second (OpenGap n) = ⊥
SpellsInPair first second (Range low high) = ⊥
SpellsInPair first second (Except b) = ⊥
SpellsInPair first second (Choice alternatives) = ⊥
