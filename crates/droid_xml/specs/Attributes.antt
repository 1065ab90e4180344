-- Attributes (XML 1.0, section 3.1).
use Rattle.std.specs.Prelude.{ℕ, ◌&&◌, Bool, true, not, List, [], ◌∷◌, codes, Option, Some}
use Rattle.std.specs.List.{list_any}
use Rattle.std.specs.Str.{bytes_eq}
use Rattle.droid_xml.specs.Bytes.{◌>>=◌, after, past_spaces, past_some_space}
use Rattle.droid_xml.specs.Names.{name_at}
use Rattle.droid_xml.specs.Values.{value_at}

-- an attribute: its name, and what its value stands for
pub record Setting : Type 0 where
  pub name : List ℕ
  pub value : List ℕ

-- [41] Attribute ::= Name Eq AttValue, where [25] Eq ::= S? '=' S?
unfoldable pub attribute_at : List ℕ → Option (Setting × List ℕ)
attribute_at bytes = do
  name ← name_at bytes
  rest ← after (codes "=") (past_spaces name.1)
  value ← value_at (past_spaces rest)
  Some (record { name = name.0; value = value.0 }, value.1)

-- an attribute behind the white space that has to stand before it
unfoldable pub next_attribute : List ℕ → Option (Setting × List ℕ)
next_attribute bytes = do
  rest ← past_some_space bytes
  attribute_at rest

-- no name stands twice
abbrev pub are_distinct : List Setting → Bool
are_distinct [] = true
are_distinct (setting ∷ settings) =
    not (list_any (λ other. bytes_eq setting.name other.name) settings) && are_distinct settings
