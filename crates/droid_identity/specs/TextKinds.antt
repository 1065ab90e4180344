-- What plain text is, by the first and last bytes of a file (this project's own).
use Rattle.std.specs.Prelude.{ℕ, ◌+◌, ◌-◌, ◌*◌, ◌%◌, Bool, true, false, not, ◌&&◌, ◌||◌, ◌==◌, nat_le, List, [], ◌∷◌}
use Rattle.std.specs.Prelude.{length, take, drop, Option, Some, None, if◌then◌else◌, chars}
use Rattle.std.specs.Char.{is_control}
use Rattle.std.specs.List.{list_all}
use Rattle.std.specs.Str.{is_utf8}
use Rattle.droid_identity.specs.declared.kind.TextKind.{TextKind}
use Rattle.droid_identity.specs.declared.kind.TextKind.TheVariants.{Ascii, Utf8, Utf16Little, Utf16Big}
use Rattle.droid_identity.specs.declared.units.Order.{Order}
use Rattle.droid_identity.specs.declared.units.Order.TheVariants.{Big, Little}

-- ---- characters

-- tab, line feed, form feed and carriage return
abbrev pub is_usual : ℕ → Bool
is_usual code = (code == 9) || (code == 10) || (code == 12) || (code == 13)

-- no control character but those
unfoldable pub is_text_char : ℕ → Bool
is_text_char code = not (is_control code) || is_usual code

-- printable ASCII, or one of those control characters
abbrev pub is_ascii_byte : ℕ → Bool
is_ascii_byte byte = (nat_le 32 byte && nat_le byte 126) || is_usual byte

-- ---- ASCII and UTF-8

-- each byte may stand in ASCII text
unfoldable pub is_ascii_text : List ℕ → Bool
is_ascii_text bytes = list_all is_ascii_byte bytes

-- the bytes are UTF-8, and each character may stand in text
unfoldable pub is_utf8_text : List ℕ → Bool
is_utf8_text bytes = is_utf8 bytes && list_all is_text_char (chars bytes)

-- the first bytes of a longer file: a character may be cut off at their end
unfoldable pub is_utf8_front : List ℕ → Bool
is_utf8_front bytes =
    is_utf8_text bytes || is_utf8_text (take (length bytes - 1) bytes) || is_utf8_text (take (length bytes - 2) bytes)
    || is_utf8_text (take (length bytes - 3) bytes)

-- the last bytes of a longer file: a character may be cut off at their beginning
unfoldable pub is_utf8_back : List ℕ → Bool
is_utf8_back bytes = is_utf8_text bytes || is_utf8_text (drop 1 bytes) || is_utf8_text (drop 2 bytes)
    || is_utf8_text (drop 3 bytes)

-- ---- UTF-16

-- the order of bytes that a mark names, FE FF or FF FE
abbrev pub mark : ℕ → ℕ → Option Order
mark a b = if (a == 254) && (b == 255) then Some Big else if (a == 255) && (b == 254) then Some Little else None

-- the order that the mark at the beginning names, if there is one
abbrev pub order_of : List ℕ → Option Order
order_of [] = None
order_of (a ∷ []) = None
order_of (a ∷ b ∷ more) = mark a b

-- the unit of two bytes, in the order of the file
abbrev pub unit : Order → ℕ → ℕ → ℕ
unit Big a b = 256 * a + b
unit Little a b = 256 * b + a

-- the first unit of a pair, a surrogate
abbrev pub is_high : ℕ → Bool
is_high u = nat_le 55296 u && nat_le u 56319

-- the second unit of a pair
abbrev pub is_low : ℕ → Bool
is_low u = nat_le 56320 u && nat_le u 57343

-- a unit comes next, where `after` says that the first of a pair stands before it
unfoldable pub may_follow : Bool → ℕ → Bool
may_follow after u = if after then is_low u else not (is_low u) && is_text_char u

-- The bytes are units of text. The first of a pair stands before them if `after` is true, and may stand at their end if
-- `cut` is true.
abbrev pub is_units : Order → (cut after : Bool) → List ℕ → Bool
is_units order cut after [] = not after || cut
is_units order cut after (a ∷ []) = false
is_units order cut after (a ∷ b ∷ more) = may_follow after (unit order a b)
    && is_units order cut (is_high (unit order a b)) more

-- the bytes without the first one, if `odd` is true
abbrev pub without_first : Bool → List ℕ → List ℕ
without_first odd bytes = if odd then drop 1 bytes else bytes

-- the last bytes of a longer file: the first of a pair may stand before them
abbrev pub is_back : Order → Bool → List ℕ → Bool
is_back order odd bytes = is_units order false false (without_first odd bytes)
    || is_units order false true (without_first odd bytes)

-- ---- files

-- the first and the last bytes are ASCII text
unfoldable pub is_ascii_file : (first last : List ℕ) → ℕ → Bool
is_ascii_file first last size = is_ascii_text first && ((length first == size) || is_ascii_text last)

-- the file is UTF-8 text; if it is longer, a character may be cut off between its first and last bytes
unfoldable pub is_utf8_file : (first last : List ℕ) → ℕ → Bool
is_utf8_file first last size =
    if length first == size then is_utf8_text first else is_utf8_front first && is_utf8_back last

-- the file is UTF-16 text of this order; units begin at even places
unfoldable pub is_utf16_file : Order → (first last : List ℕ) → ℕ → Bool
is_utf16_file order first last size =
    if length first == size then is_units order false false first
    else is_units order true false first && is_back order ((size - length last) % 2 == 1) last

-- the kind of UTF-16 with this order
abbrev pub kind_of_order : Order → TextKind
kind_of_order Big = Utf16Big
kind_of_order Little = Utf16Little

-- the kind of a file that begins with the mark of this order
unfoldable pub utf16_kind : Order → (first last : List ℕ) → ℕ → Option TextKind
utf16_kind order first last size = if is_utf16_file order first last size then Some (kind_of_order order) else None

-- the kind of a file without a mark: ASCII before UTF-8
unfoldable pub byte_kind : (first last : List ℕ) → ℕ → Option TextKind
byte_kind first last size =
    if is_ascii_file first last size then Some Ascii else if is_utf8_file first last size then Some Utf8 else None

-- the kind by the order that a mark names, or without one
abbrev pub kind_by_order : Option Order → (first last : List ℕ) → ℕ → Option TextKind
kind_by_order None first last size = byte_kind first last size
kind_by_order (Some order) first last size = utf16_kind order first last size

-- How a file of this size is written if it is plain text, by its first and last bytes. An empty file is no text.
unfoldable pub text_kind : (first last : List ℕ) → ℕ → Option TextKind
text_kind first last size = if length first == 0 then None else kind_by_order (order_of first) first last size
