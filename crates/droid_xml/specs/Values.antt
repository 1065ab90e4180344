-- Values of attributes (XML 1.0, sections 2.3 and 3.3.3): references replaced, and white space made spaces.
use Rattle.std.specs.Prelude.{ℕ, ◌==◌, ◌++◌, if◌then◌else◌, not, List, [], ◌∷◌, Option, Some, None}
use Rattle.std.specs.Char.{encode_utf8}
use Rattle.std.specs.List.{fold, list_any}
use Rattle.std.specs.Str.{chars}
use Rattle.droid_xml.specs.Bytes.{◌>>=◌, only_if, choose, is_byte, is_space, cut_at_byte}
use Rattle.droid_xml.specs.Characters.{text_in}
use Rattle.droid_xml.specs.References.{referenced}

-- a value while it is read: the text so far, and inside a reference what stands behind its &
pub record Partial : Type 0 where
  pub text : List ℕ
  pub name : Option (List ℕ)

-- a value before its first character
abbrev pub nothing : Partial
nothing = record { text = []; name = None }

-- white space is a space
abbrev pub spaced : ℕ → ℕ
spaced c = if is_space c then 32 else c

-- a character outside of references, which & begins
abbrev pub plain : List ℕ → ℕ → Partial
plain text c =
    if c == 38 then record { text = text; name = Some [] }
    else record { text = text ++ encode_utf8 (spaced c); name = None }

-- a character inside a reference, which ; ends
abbrev pub inside : List ℕ → List ℕ → ℕ → Option Partial
inside text name c =
    if c == 59 then referenced name >>= (λ char. Some (record { text = text ++ encode_utf8 char; name = None }))
    else Some (record { text = text; name = Some (name ++ encode_utf8 c) })

-- a value after one more character, unless a reference is wrong
abbrev pub after_char : Partial → ℕ → Option Partial
after_char value c = choose value.name (λ name. inside value.text name c) (Some (plain value.text c))

-- the same, unless it was wrong before
abbrev pub after_each : Option Partial → ℕ → Option Partial
after_each value c = value >>= (λ partial. after_char partial c)

-- a value doesn't end inside a reference
abbrev pub ended : Partial → Option (List ℕ)
ended value = choose value.name (λ name. None) (Some value.text)

-- what these characters between quotes stand for
unfoldable pub value_of : List ℕ → Option (List ℕ)
value_of cs = fold after_each (Some nothing) cs >>= ended

-- [10] AttValue behind its first quote: no < and no such quote in it
unfoldable pub quoted_by : ℕ → List ℕ → Option (List ℕ × List ℕ)
quoted_by quote bytes = do
  cut ← cut_at_byte quote bytes
  text ← text_in cut.0
  raw ← only_if (not (list_any (is_byte 60) text)) text
  value ← value_of (chars raw)
  Some (value, cut.1)

-- [10] AttValue, in either kind of quotes
unfoldable pub value_at : List ℕ → Option (List ℕ × List ℕ)
value_at [] = None
value_at (quote ∷ bytes) = if quote == 34 then quoted_by 34 bytes else if quote == 39 then quoted_by 39 bytes else None
