-- Texts cut to a number of columns (this project's own). The width of a text is `str_width` of `unicode_width`.
use Rattle.std.specs.Prelude.{◌≡◌, ℕ, ◌+◌, ◌-◌, ◌*◌, ◌<◌, ◌≤◌, false, List, length, take, drop, chars, IsUtf8}
use Rattle.unicode_width.specs.Width.{str_width}

-- how many columns a text takes on a terminal
abbrev pub columns_of : List ℕ → ℕ
columns_of text = str_width false (chars text)

-- The longest beginning of a text that fits these columns, among those of at most four bytes per column.
pub record IsFront (text : List ℕ) (columns : ℕ) (front : List ℕ) : Type 0 where
  pub its : front ≡ take (length front) text
  pub fits : columns_of front ≤ columns
  pub longest : (n : ℕ) → length front < n → n ≤ length text → n ≤ columns * 4 → IsUtf8 (take n text)
      → columns < columns_of (take n text)

-- The longest end of a text that fits these columns, among those of at most four bytes per column.
pub record IsEnd (text : List ℕ) (columns : ℕ) (end : List ℕ) : Type 0 where
  pub its : end ≡ drop (length text - length end) text
  pub fits : columns_of end ≤ columns
  pub longest : (n : ℕ) → n + length end < length text → length text ≤ n + columns * 4 → IsUtf8 (drop n text)
      → columns < columns_of (drop n text)
