-- Texts, each after its length (this project's own).
use Rattle.std.specs.Prelude.{◌≤◌, ℕ, List, ◌∷◌, length}
use Rattle.std.specs.List.{flat_map}
use Rattle.std.specs.Str.{IsUtf8}

-- the length in one byte, and then the bytes of the text
abbrev pub sized_bytes : List ℕ → List ℕ
sized_bytes text = length text ∷ text

-- the texts one after the other, each after its length
abbrev pub texts_bytes : List (List ℕ) → List ℕ
texts_bytes texts = flat_map sized_bytes texts

-- UTF-8 of `least` to `most` bytes
pub record IsSizedText (least most : ℕ) (text : List ℕ) : Type 0 where
  pub utf8 : IsUtf8 text
  pub at_least : least ≤ length text
  pub at_most : length text ≤ most
