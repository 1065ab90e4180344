-- How a pattern is written: a part of PRONOM's syntax for byte sequences.
use Rattle.std.specs.Prelude.{◌≡◌, ◌⊎◌, ℕ, ◌+◌, ◌*◌, ◌≤◌, ◌<◌, true, List, [], ◌∷◌, ◌++◌, length, All, codes}
use Rattle.std.specs.Char.{digit_value}
use Rattle.droid_pattern.specs.Patterns.{Element, Byte, AnyByte, Gap, OpenGap, Range, Except, Choice, has_byte}

-- two hexadecimal digits, in either case, stand for a byte
abbrev pub IsPair : ℕ → ℕ → ℕ → Type 0
IsPair high low byte =
    (digit_value high < 16) × (digit_value low < 16) × (byte ≡ 16 * digit_value high + digit_value low)

-- each byte is written as two digits
abbrev pub SpellsBytes : List ℕ → List ℕ → Type 0
SpellsBytes text [] = text ≡ []
SpellsBytes text (b ∷ bytes) =
    (high : ℕ) × (low : ℕ) × (rest : List ℕ) × (text ≡ high ∷ low ∷ rest) × IsPair high low b × SpellsBytes rest bytes

-- what decimal digits stand for, after digits that stand for n
abbrev pub decimal_after : ℕ → List ℕ → ℕ
decimal_after n [] = n
decimal_after n (d ∷ digits) = decimal_after (10 * n + digit_value d) digits

-- one to five decimal digits that stand for n, which is at most 65,535
pub record IsNumber (text : List ℕ) (n : ℕ) : Type 0 where
  pub some : 0 < length text
  pub few : length text ≤ 5
  pub digits : All (λ d. digit_value d < 10) text
  pub value : n ≡ decimal_after 0 text
  pub small : n ≤ 65535

-- the length of a gap: `n` or `n-m`
abbrev pub SpellsGap : List ℕ → ℕ → ℕ → Type 0
SpellsGap text n m =
    (IsNumber text n × (m ≡ n))
    ⊎ ((low : List ℕ) × (high : List ℕ) × (text ≡ low ++ (codes "-" ++ high)) × IsNumber low n × IsNumber high m
    × (n ≤ m))

-- an alternative: one or more bytes, each as two digits
abbrev pub SpellsAlternative : List ℕ → List ℕ → Type 0
SpellsAlternative text bytes = SpellsBytes text bytes × (0 < length bytes)

-- one or more alternatives, separated by `|`
abbrev pub SpellsChoice : List ℕ → List (List ℕ) → Type 0
SpellsChoice text [] = ⊥
SpellsChoice text (a ∷ []) = SpellsAlternative text a
SpellsChoice text (a ∷ b ∷ more) =
    (first : List ℕ) × (rest : List ℕ) × (text ≡ first ++ (codes "|" ++ rest)) × SpellsAlternative first a
    × SpellsChoice rest (b ∷ more)

-- The text of one element: `61`, `??`, `{3}` or `{2-5}`, `{2-*}` or `*`, `[61:7A]`, `[!61]`, `(61|6263)`.
abbrev pub SpellsElement : List ℕ → Element → Type 0
SpellsElement text (Byte b) = SpellsBytes text (b ∷ [])
SpellsElement text AnyByte = text ≡ codes "??"
SpellsElement text (Gap n m) = (body : List ℕ) × (text ≡ codes "{" ++ body ++ codes "}") × SpellsGap body n m
SpellsElement text (OpenGap n) =
    ((text ≡ codes "*") × (n ≡ 0))
    ⊎ ((digits : List ℕ) × (text ≡ codes "{" ++ digits ++ codes "-*}") × IsNumber digits n)
SpellsElement text (Range low high) =
    (from : List ℕ) × (to : List ℕ) × (text ≡ codes "[" ++ from ++ (codes ":" ++ to) ++ codes "]")
    × SpellsBytes from (low ∷ []) × SpellsBytes to (high ∷ []) × (low ≤ high)
SpellsElement text (Except b) =
    (digits : List ℕ) × (text ≡ codes "[!" ++ digits ++ codes "]") × SpellsBytes digits (b ∷ [])
SpellsElement text (Choice alternatives) =
    (body : List ℕ) × (text ≡ codes "(" ++ body ++ codes ")") × SpellsChoice body alternatives

-- the texts of the elements, one after another
abbrev pub SpellsAll : List ℕ → List Element → Type 0
SpellsAll text [] = text ≡ []
SpellsAll text (e ∷ es) =
    (front : List ℕ) × (back : List ℕ) × (text ≡ front ++ back) × SpellsElement front e × SpellsAll back es

-- The text of a pattern: at most 4,096 bytes, and at least one element is not a gap.
pub record Spells (text : List ℕ) (es : List Element) : Type 0 where
  pub short : length text ≤ 4096
  pub elements : SpellsAll text es
  pub has_byte : has_byte es ≡ true
