-- Which texts the fields of a registry file's records may have (this project's own rules).
use Rattle.std.specs.Prelude.{ℕ, Bool, ◌==◌, ◌&&◌, ◌||◌, not, nat_le, List, length, Option, Some, None, codes}
use Rattle.std.specs.Prelude.{if◌then◌else◌}
use Rattle.std.specs.Char.{is_ascii_alphanumeric, is_ascii_digit}
use Rattle.std.specs.List.{list_all}
use Rattle.std.specs.Str.{bytes_eq}
use Rattle.std.specs.Str.Parse.{digits_value}
use Rattle.droid_pronom.specs.declared.rows.Anchor.{Anchor}
use Rattle.droid_pronom.specs.declared.rows.Anchor.TheVariants.{Bof, Eof}
use Rattle.droid_pronom.specs.declared.rows.Offsets.{Offsets}

-- the text has from `least` to `most` bytes
abbrev pub has_bytes : ℕ → ℕ → List ℕ → Bool
has_bytes least most text = nat_le least (length text) && nat_le (length text) most

-- ASCII letters, digits, `/` and `-`
abbrev pub is_puid_byte : ℕ → Bool
is_puid_byte c = is_ascii_alphanumeric c || (c == 47) || (c == 45)

-- a PUID
abbrev pub is_puid : List ℕ → Bool
is_puid text = has_bytes 1 32 text && list_all is_puid_byte text

-- the name of a format
abbrev pub is_name : List ℕ → Bool
is_name text = has_bytes 1 255 text

-- the version or the media type of a format
abbrev pub is_note : List ℕ → Bool
is_note text = nat_le (length text) 255

-- any byte but `.` and `/`
abbrev pub is_extension_byte : ℕ → Bool
is_extension_byte c = not (c == 46) && not (c == 47)

-- an extension that a format lists
abbrev pub is_extension : List ℕ → Bool
is_extension text = has_bytes 1 64 text && list_all is_extension_byte text

-- a field that is not used
abbrev pub is_empty : List ℕ → Bool
is_empty text = length text == 0

-- the number that 1 to 5 decimal digits stand for, at most 65,535
abbrev pub number_of : List ℕ → Option ℕ
number_of text =
    if has_bytes 1 5 text && list_all is_ascii_digit text && nat_le (digits_value 10 text) 65535
    then Some (digits_value 10 text) else None

-- the anchor of a byte sequence
abbrev pub anchor_of : List ℕ → Option Anchor
anchor_of text =
    if bytes_eq text (codes "BOF") then Some Bof else if bytes_eq text (codes "EOF") then Some Eof else None

-- offsets from an anchor: from min to max, where min is at most max
abbrev pub offsets_between : Option Anchor → Option ℕ → Option ℕ → Option Offsets
offsets_between (Some anchor) (Some min) (Some max) =
    if nat_le min max then Some (record { anchor = anchor; min = min; max = max }) else None
offsets_between (Some anchor) (Some min) None = None
offsets_between (Some anchor) None max = None
offsets_between None min max = None

-- the offsets that three fields spell
abbrev pub offsets_of : List ℕ → List ℕ → List ℕ → Option Offsets
offsets_of anchor min max = offsets_between (anchor_of anchor) (number_of min) (number_of max)

-- what a record is about: a format, an extension that one lists, a priority, a signature with its first byte sequence,
-- one more byte sequence
pub data Kind : Type 0 where
  Format : Kind
  Extension : Kind
  Priority : Kind
  Signature : Kind
  Sequence : Kind

-- what a record is about, by its first field
abbrev pub kind_of : List ℕ → Option Kind
kind_of text =
    if bytes_eq text (codes "F") then Some Format
    else if bytes_eq text (codes "E") then Some Extension
    else if bytes_eq text (codes "P") then Some Priority
    else if bytes_eq text (codes "S") then Some Signature
    else if bytes_eq text (codes "B") then Some Sequence
    else None
