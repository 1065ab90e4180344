-- The words of a line, and the numbers and truth values among them (this project's own rule).
use Rattle.std.specs.Prelude.{ℕ, ℤ, pos, neg_ℤ, ◌+◌, ◌^◌, ◌==◌, ◌&&◌, nat_lt, if◌then◌else◌, Bool, true, false, List}
use Rattle.std.specs.Prelude.{length, drop, slice_index, codes, Option, Some, None}
use Rattle.std.specs.List.{position_or_len, before_first, after_first}
use Rattle.std.specs.Option.{option_map}
use Rattle.std.specs.Str.{all_ascii_digits, bytes_eq}
use Rattle.std.specs.Str.Parse.{digits_value}
use Rattle.droid_frame.specs.Reading.{◌>>=◌}

-- the byte that a text is cut at
abbrev pub is_byte : ℕ → ℕ → Bool
is_byte wanted byte = byte == wanted

-- the text before the first such byte, and the text after it
unfoldable pub cut_at : ℕ → List ℕ → Option (List ℕ × List ℕ)
cut_at byte text =
    if nat_lt (position_or_len (is_byte byte) text) (length text)
    then Some (before_first (is_byte byte) text, after_first (is_byte byte) text)
    else None

-- the word before the first space, and the text after the space
abbrev pub word_at : List ℕ → Option (List ℕ × List ℕ)
word_at text = cut_at 32 text

-- a text without a space is one word
abbrev pub or_alone : List ℕ → Option (List ℕ × List ℕ) → List ℕ × Option (List ℕ)
or_alone text None = (text, None)
or_alone text (Some word) = (word.0, Some word.1)

-- the first word, and the text after the space, if there is one
unfoldable pub first_word : List ℕ → List ℕ × Option (List ℕ)
first_word text = or_alone text (word_at text)

-- ---- numbers

-- a number below the bound, written in one or more decimal digits and nothing else
unfoldable pub number_below : ℕ → List ℕ → Option ℕ
number_below bound word =
    if all_ascii_digits word && nat_lt 0 (length word) && nat_lt (digits_value 10 word) bound
    then Some (digits_value 10 word)
    else None

-- a number of 64 bits with a sign: digits, or `-` and digits
unfoldable pub signed_number : List ℕ → Option ℤ
signed_number word =
    if slice_index word 0 == 45 then option_map (λ n. neg_ℤ (pos n)) (number_below (2 ^ 63 + 1) (drop 1 word))
    else option_map pos (number_below (2 ^ 63) word)

-- a number below the bound as the first word, and the text after the space
unfoldable pub number_word : ℕ → List ℕ → Option (ℕ × List ℕ)
number_word bound text = do
  word ← word_at text
  number ← number_below bound word.0
  Some (number, word.1)

-- a signed number as the first word, and the text after the space
unfoldable pub signed_word : List ℕ → Option (ℤ × List ℕ)
signed_word text = do
  word ← word_at text
  number ← signed_number word.0
  Some (number, word.1)

-- ---- truth values

-- `0` or `1`
unfoldable pub truth_word : List ℕ → Option Bool
truth_word word =
    if bytes_eq word (codes "0") then Some false
    else if bytes_eq word (codes "1") then Some true
    else None
