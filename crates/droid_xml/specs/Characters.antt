-- Which characters a document has, and which a name has (XML 1.0, fifth edition, sections 2.2 and 2.3).
use Rattle.std.specs.Prelude.{ℕ, ◌==◌, ◌||◌, ◌&&◌, nat_le, Bool, List, Option}
use Rattle.std.specs.List.{list_all}
use Rattle.std.specs.Str.{is_utf8, chars}
use Rattle.droid_xml.specs.Bytes.{only_if}

-- from low to high
abbrev pub is_in : ℕ → ℕ → ℕ → Bool
is_in low high c = nat_le low c && nat_le c high

-- [2] Char: no control but tab, line feed and carriage return; no surrogate, no U+FFFE, no U+FFFF
abbrev pub is_char : ℕ → Bool
is_char c =
    c == 0x9 || c == 0xA || c == 0xD || is_in 0x20 0xD7FF c || is_in 0xE000 0xFFFD c || is_in 0x1_0000 0x10_FFFF c

-- [4] NameStartChar
unfoldable pub is_name_start : ℕ → Bool
is_name_start c =
    c == 58 || is_in 65 90 c || c == 95 || is_in 97 122 c || is_in 0xC0 0xD6 c || is_in 0xD8 0xF6 c
    || is_in 0xF8 0x2FF c || is_in 0x370 0x37D c
    || is_in 0x37F 0x1FFF c || is_in 0x200C 0x200D c || is_in 0x2070 0x218F c || is_in 0x2C00 0x2FEF c
    || is_in 0x3001 0xD7FF c || is_in 0xF900 0xFDCF c
    || is_in 0xFDF0 0xFFFD c || is_in 0x1_0000 0xE_FFFF c

-- [4a] NameChar
unfoldable pub is_name_char : ℕ → Bool
is_name_char c =
    is_name_start c || c == 45 || c == 46 || is_in 48 57 c || c == 0xB7 || is_in 0x300 0x36F c || is_in 0x203F 0x2040 c

-- bytes that are a text in UTF-8, of characters that a document may have
unfoldable pub text_in : List ℕ → Option (List ℕ)
text_in bytes = only_if (is_utf8 bytes && list_all is_char (chars bytes)) bytes
