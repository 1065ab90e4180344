-- Names (XML 1.0, section 2.3).
use Rattle.std.specs.Prelude.{ℕ, ◌||◌, ◌&&◌, nat_le, Bool, false, List, [], ◌∷◌, take, drop, Option}
use Rattle.std.specs.List.{list_all, prefix_len}
use Rattle.std.specs.Str.{is_utf8, chars}
use Rattle.droid_xml.specs.Bytes.{only_if}
use Rattle.droid_xml.specs.Characters.{is_name_start, is_name_char}

-- a byte of a name: an ASCII character of one, or a byte of a character that isn't ASCII
abbrev pub is_name_byte : ℕ → Bool
is_name_byte byte = nat_le 128 byte || is_name_char byte

-- a name may begin with the first character
abbrev pub begins_name : List ℕ → Bool
begins_name [] = false
begins_name (c ∷ cs) = is_name_start c

-- [5] Name ::= NameStartChar NameChar*, where each NameStartChar is a NameChar
abbrev pub are_of_name : List ℕ → Bool
are_of_name cs = begins_name cs && list_all is_name_char cs

-- whether bytes are the UTF-8 of a name
abbrev pub is_name : List ℕ → Bool
is_name bytes = is_utf8 bytes && are_of_name (chars bytes)

-- as many bytes of a name as stand at the front, where they are a name, and what follows
unfoldable pub name_at : List ℕ → Option (List ℕ × List ℕ)
name_at bytes =
    only_if (is_name (take (prefix_len is_name_byte bytes) bytes))
    (take (prefix_len is_name_byte bytes) bytes, drop (prefix_len is_name_byte bytes) bytes)
