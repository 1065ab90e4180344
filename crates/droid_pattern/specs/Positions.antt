-- Positions in the bytes, and how an element leads from one position to another.
use Rattle.std.specs.Prelude.{◌≡◌, ◌↔◌, ℕ, ◌+◌, ◌-◌, ◌*◌, ◌≤◌, ◌<◌, true, List, [], ◌∷◌, length, take, drop}
use Rattle.std.specs.Prelude.{slice_index, All}
use Rattle.droid_pattern.specs.Places.{IsPlace}
use Rattle.droid_pattern.specs.declared.direction.Direction.{Direction}
use Rattle.droid_pattern.specs.declared.direction.Direction.TheVariants as direction
use Rattle.droid_pattern.specs.declared.class.Class.{Class}
use Rattle.droid_pattern.specs.declared.class_set.ClassSet.{ClassSet}
use Rattle.droid_pattern.specs.Patterns.{Element, Matches}
use Rattle.droid_pattern.specs.Tokens.{accepts}

-- the element matches the bytes from one position up to another
pub record Leads (e : Element) (bytes : List ℕ) (from to : ℕ) : Type 0 where
  pub ordered : from ≤ to
  pub inside : to ≤ length bytes
  pub matched : Matches e (take (to - from) (drop from bytes))

-- one step over an element, toward the end or toward the start of the bytes
abbrev pub Steps : Direction → Element → List ℕ → ℕ → ℕ → Type 0
Steps direction.End e bytes p q = Leads e bytes p q
Steps direction.Start e bytes p q = Leads e bytes q p

-- `to` holds exactly the positions that one step reaches from a position of `from`
abbrev pub Reaches : Direction → Element → List ℕ → (ℕ → Type 0) → (ℕ → Type 0) → Type 0
Reaches way e bytes from to = (q : ℕ) → to q ↔ ((p : ℕ) × from p × Steps way e bytes p q)

-- A bit set counts positions in the direction of the steps: from the start, or from the end of `len` bytes.
abbrev pub place_of : Direction → ℕ → ℕ → ℕ
place_of direction.End len p = p
place_of direction.Start len p = len - p

-- a position in the bytes is in the bit set
abbrev pub IsAt : Direction → List ℕ → List ℕ → ℕ → Type 0
IsAt way bytes bits p = (p ≤ length bytes) × IsPlace bits (place_of way (length bytes) p)

-- the bit set has no place past the end of the bytes
abbrev pub IsInside : List ℕ → List ℕ → Type 0
IsInside bytes bits = (p : ℕ) → IsPlace bits p → p ≤ length bytes

-- the next byte after a place, in the direction of the steps
abbrev pub byte_behind : Direction → List ℕ → ℕ → ℕ
byte_behind direction.End bytes p = slice_index bytes p
byte_behind direction.Start bytes p = slice_index bytes (length bytes - 1 - p)

-- as far as the bit set has words, its places are those whose next byte is in the class
abbrev pub IsSetOf : Direction → List ℕ → Class → List ℕ → Type 0
IsSetOf way bytes class bits =
    (p : ℕ) → p < 64 * length bits
    → IsPlace bits p ↔ ((p < length bytes) × (accepts class (byte_behind way bytes p) ≡ true))

-- each cached set is the set of its class
abbrev pub AreSetsOf : Direction → List ℕ → List ClassSet → Type 0
AreSetsOf way bytes sets = All (λ it. IsSetOf way bytes it.class it.bits) sets

-- the places after the first `count` bytes of a literal, in the direction of the steps
abbrev pub IsChain : Direction → (bytes literal : List ℕ) → ℕ → (old new : List ℕ) → Type 0
IsChain way bytes literal count old new =
    (q : ℕ) → IsPlace new q ↔ ((p : ℕ) × IsPlace old p × (q ≡ p + count)
    × ((j : ℕ) → j < count → (p + j < length bytes) × (byte_behind way bytes (p + j) ≡ byte_behind way literal j)))

-- from p to q, over one element after another
abbrev pub Path : List Element → List ℕ → ℕ → ℕ → Type 0
Path [] bytes p q = p ≡ q
Path (e ∷ es) bytes p q = (r : ℕ) × Leads e bytes p r × Path es bytes r q
