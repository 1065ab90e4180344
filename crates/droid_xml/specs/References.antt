-- References to characters and to the five entities (XML 1.0, sections 4.1 and 4.6). No other entity is ever read.
use Rattle.std.specs.Prelude.{ℕ, ◌+◌, ◌*◌, nat_lt, if◌then◌else◌, List, [], ◌∷◌, codes, Option, Some, None}
use Rattle.std.specs.Char.{digit_value}
use Rattle.std.specs.Str.{bytes_eq}
use Rattle.droid_xml.specs.Bytes.{◌>>=◌, only_if, choose, after, cut_at_byte}
use Rattle.droid_xml.specs.Characters.{is_char}

-- the number that these digits write behind the value so far, if each is a digit of the base
abbrev pub more_digits : ℕ → ℕ → List ℕ → Option ℕ
more_digits base value [] = Some value
more_digits base value (b ∷ bytes) =
    if nat_lt (digit_value b) base then more_digits base (value * base + digit_value b) bytes else None

-- a number of one digit or more
abbrev pub number_in : ℕ → List ℕ → Option ℕ
number_in base [] = None
number_in base (b ∷ bytes) = more_digits base 0 (b ∷ bytes)

-- the character of this number, if a document may have it
abbrev pub char_of : ℕ → Option ℕ
char_of number = only_if (is_char number) number

-- the character whose number these digits write
unfoldable pub numbered : ℕ → List ℕ → Option ℕ
numbered base digits = number_in base digits >>= char_of

-- lt, gt, amp, apos, quot
unfoldable pub entity : List ℕ → Option ℕ
entity name =
    if bytes_eq name (codes "lt") then Some 60
    else if bytes_eq name (codes "gt") then Some 62
    else if bytes_eq name (codes "amp") then Some 38
    else if bytes_eq name (codes "apos") then Some 39
    else if bytes_eq name (codes "quot") then Some 34
    else None

-- the character that stands for what is between & and ;
unfoldable pub referenced : List ℕ → Option ℕ
referenced name =
    choose (after (codes "#x") name) (numbered 16) (choose (after (codes "#") name) (numbered 10) (entity name))

-- [67] Reference, behind its &
unfoldable pub reference_at : List ℕ → Option (ℕ × List ℕ)
reference_at bytes = do
  cut ← cut_at_byte 59 bytes
  char ← referenced cut.0
  Some (char, cut.1)
