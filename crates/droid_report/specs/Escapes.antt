-- A text in a page (HTML, the living standard, section 13.1.4).
use Rattle.std.specs.Prelude.{ℕ, ◌+◌, ◌==◌, nat_lt, List, [], ◌∷◌, codes, if◌then◌else◌}
use Rattle.std.specs.List.{flat_map}

-- A page has no control characters, so each is shown as its picture (U+2400 to U+241F, and U+2421), in UTF-8.
abbrev pub pictured : ℕ → List ℕ
pictured byte =
    if nat_lt byte 32 then 226 ∷ 144 ∷ (128 + byte) ∷ []
    else if byte == 127 then 226 ∷ 144 ∷ 161 ∷ [] else byte ∷ []

-- what a reader of the page sees of a text
abbrev pub shown : List ℕ → List ℕ
shown text = flat_map pictured text

-- a byte so that it is no markup: the four that could be stand as references
abbrev pub escaped : ℕ → List ℕ
escaped byte =
    if byte == 38 then codes "&amp;"
    else if byte == 60 then codes "&lt;"
    else if byte == 62 then codes "&gt;"
    else if byte == 34 then codes "&quot;" else pictured byte

-- a text so that nothing of it is markup, between elements and in an attribute's value
abbrev pub escape : List ℕ → List ℕ
escape text = flat_map escaped text
