-- Paths and reasons as they are printed (this project's own).
use Rattle.std.specs.Prelude.{ℕ, ◌/◌, ◌%◌, Bool, false, not, ◌&&◌, ◌||◌, List, [], ◌∷◌, ◌++◌, codes, chars, encode_utf8}
use Rattle.std.specs.Prelude.{flat_map, ◌==◌, nat_le, if◌then◌else◌}
use Rattle.std.specs.Char.{is_control}
use Rattle.std.specs.Fmt.{digits}
use Rattle.std.specs.List.{list_any}
use Rattle.std.specs.Str.{is_utf8}
use Rattle.droid_frame.specs.declared.refusal.Refusal.TheVariants as refusals
use Rattle.droid_tree.specs.declared.skip_reason.Skipped.{Skipped}
use Rattle.droid_tree.specs.declared.skip_reason.Skipped.TheVariants as reasons

-- a path that is text without control characters
abbrev pub is_plain : List ℕ → Bool
is_plain path = is_utf8 path && not (list_any is_control (chars path))

-- a quotation mark or a backslash
abbrev pub is_quoted : ℕ → Bool
is_quoted byte = byte == 34 || byte == 39 || byte == 92

-- a printable ASCII character or a space
abbrev pub is_printed : ℕ → Bool
is_printed byte = nat_le 32 byte && nat_le byte 126

-- A byte with escapes: tabs and ends of lines by their letters, quotation marks and backslashes after a backslash,
-- printable ones as they are, and all others by two hexadecimal digits.
unfoldable pub escaped_byte : ℕ → List ℕ
escaped_byte byte =
    if byte == 9 then 92 ∷ 116 ∷ []
    else (if byte == 10 then 92 ∷ 110 ∷ []
    else (if byte == 13 then 92 ∷ 114 ∷ []
    else (if is_quoted byte then 92 ∷ encode_utf8 byte
    else (if is_printed byte then encode_utf8 byte
    else 92 ∷ 120 ∷ (digits 16 false (byte / 16) ++ digits 16 false (byte % 16))))))

-- a plain path prints as it is, any other path with escapes
unfoldable pub shown_text : List ℕ → List ℕ
shown_text path = if is_plain path then path else flat_map escaped_byte path

-- the line for a skipped entry
abbrev pub skipped_text : List ℕ → List ℕ → List ℕ
skipped_text path cause = codes "skipped: " ++ (path ++ (codes ": " ++ (cause ++ 10 ∷ [])))

-- why an entry was skipped, in words
unfoldable pub cause_text : Skipped → List ℕ
cause_text reasons.Link = codes "it is a symbolic link, which is no part of a profile"
cause_text reasons.Kind = codes "neither a folder nor a regular file, or it can't be looked at"
cause_text reasons.Name = codes "its name is no UTF-8"
cause_text reasons.SameName = codes "same name: its folder lists the name twice"
cause_text reasons.Unreadable = codes "it could not be opened or read"
cause_text reasons.Changed = codes "it changed while it was read"
cause_text reasons.OtherHash = codes "its hash in the profile is another"
cause_text (reasons.Refused refusals.BadName) = codes "its name is too long or can't be in a profile"
cause_text (reasons.Refused refusals.PathTooLong) = codes "with DIR, its path has more than 4,095 bytes"
cause_text (reasons.Refused refusals.TooLarge) = codes "it is too large"
cause_text (reasons.Refused refusals.BadOption) = codes "its modification time is out of range"
cause_text (reasons.Refused (refusals.LimitReached limit)) = codes "the profile has no place for more"
cause_text (reasons.Refused refusals.NameTaken) = codes "changed since it was submitted"
cause_text (reasons.Refused refusals.NumberReused) = codes "changed since it was submitted"
cause_text (reasons.Refused other) = codes "it was refused"
