-- For inner clauses and proofs: characters of a text in a page, as `Escapes` has its bytes.
use Rattle.std.specs.Prelude.{ℕ, ◌+◌, ◌==◌, nat_lt, List, codes, encode_utf8, if◌then◌else◌}

-- the picture of a control character (U+2400 to U+241F, U+2421), or the character itself
abbrev pub picture_of : ℕ → ℕ
picture_of c = if nat_lt c 32 then 9216 + c else if c == 127 then 9249 else c

-- a character so that it is no markup
unfoldable pub escaped_letter : ℕ → List ℕ
escaped_letter c =
    if c == 38 then codes "&amp;"
    else if c == 60 then codes "&lt;"
    else if c == 62 then codes "&gt;"
    else if c == 34 then codes "&quot;" else encode_utf8 (picture_of c)
