-- The lines of a file: its formats, and why it has each of them (this project's own).
use Rattle.std.specs.Prelude.{ℕ, ◌+◌, ◌-◌, ◌==◌, Bool, List, [], ◌∷◌, ◌++◌, length, Option, Some, None, codes, flat_map}
use Rattle.std.specs.Prelude.{if◌then◌else◌}
use Rattle.std.specs.Fmt.{decimal}
use Rattle.droid_terminal.specs.Paths.{shown_text}
use Rattle.droid_pronom.specs.declared.rows.Anchor.{Anchor}
use Rattle.droid_pronom.specs.declared.rows.Anchor.TheVariants.{Bof, Eof}
use Rattle.droid_identity.specs.declared.found_match.Match.{Match}
use Rattle.droid_identity.specs.declared.kind.TextKind.{TextKind}
use Rattle.droid_identity.specs.declared.kind.TextKind.TheVariants.{Ascii, Utf8, Utf16Little, Utf16Big}
use Rattle.droid_cmd_identify.specs.declared.forms.shown_format.Reason.{Reason}
use Rattle.droid_cmd_identify.specs.declared.forms.shown_format.Reason.TheVariants.{Signature, Extension}
use Rattle.droid_cmd_identify.specs.declared.forms.shown_file.ShownFile.{ShownFile}
use Rattle.droid_cmd_identify.specs.declared.forms.shown_file.ShownHash.{ShownHash}
use Rattle.droid_cmd_identify.specs.declared.forms.shown_format.ShownFormat.{ShownFormat}
use Rattle.droid_frame.specs.declared.hash_kind.HashKind.{HashKind}
use Rattle.droid_frame.specs.declared.hash_kind.HashKind.TheVariants as hashes

-- ---- the basis

-- `bytes 0 to 7`, both included
unfoldable pub at_begin : (offset count : ℕ) → List ℕ
at_begin offset count =
    if count == 1 then codes "byte " ++ decimal offset else codes "bytes "
    ++ (decimal offset ++ (codes " to " ++ decimal (offset + count - 1)))

-- `the last 6`, or `6 before the last 10`
unfoldable pub at_end : (offset count : ℕ) → List ℕ
at_end offset count =
    if offset == 0 then codes "the last " ++ decimal count else decimal count
    ++ (codes " before the last " ++ decimal offset)

-- the bytes of a match, by the end from which its offset is counted
abbrev pub at_anchor : Anchor → (offset count : ℕ) → List ℕ
at_anchor Bof offset count = at_begin offset count
at_anchor Eof offset count = at_end offset count

-- the bytes of a match
abbrev pub match_text : Match → List ℕ
match_text its = at_anchor its.anchor its.offset its.count

-- each match after the first follows a semicolon
abbrev pub more_text : Match → List ℕ
more_text its = codes "; " ++ match_text its

-- matches, separated by semicolons
abbrev pub matches_text : List Match → List ℕ
matches_text [] = []
matches_text (its ∷ more) = match_text its ++ flat_map more_text more

-- why a file has a format: the bytes of the matches, or the extension
abbrev pub basis_text : Reason → List ℕ
basis_text (Signature number matches) = matches_text matches.now
basis_text (Extension extension) = codes "extension " ++ shown_text extension.now

-- ---- the lines

-- a text behind a space; nothing of an empty one
abbrev pub after_space : List ℕ → List ℕ
after_space text = if length text == 0 then [] else codes " " ++ shown_text text

-- a text in parentheses behind a space; nothing of an empty one
abbrev pub in_parentheses : List ℕ → List ℕ
in_parentheses text = if length text == 0 then [] else codes " (" ++ (shown_text text ++ codes ")")

-- the end of the line where the extension contradicts the formats
abbrev pub warning : Bool → List ℕ
warning mismatch = if mismatch then codes ", warning: the format has other extensions" else []

-- `PATH: PUID NAME VERSION (MIME), BASIS`
abbrev pub format_line : List ℕ → ShownFormat → List ℕ
format_line path its =
    shown_text path ++ (codes ": " ++ (its.format.now.puid ++ (codes " "
    ++ (shown_text its.format.now.name ++ (after_space its.format.now.version
    ++ (in_parentheses its.format.now.mime ++ (codes ", " ++ (basis_text its.reason
    ++ (warning its.mismatch ++ 10 ∷ [])))))))))

-- the name of a kind of text
unfoldable pub kind_name : TextKind → List ℕ
kind_name Ascii = codes "ASCII"
kind_name Utf8 = codes "UTF-8"
kind_name Utf16Little = codes "UTF-16"
kind_name Utf16Big = codes "UTF-16"

-- `, text, ASCII`; nothing of what is no plain text
abbrev pub kind_text : Option TextKind → List ℕ
kind_text None = []
kind_text (Some kind) = codes ", text, " ++ kind_name kind

-- `PATH: unidentified`, and the kind of a text
abbrev pub unidentified_line : List ℕ → Option TextKind → List ℕ
unidentified_line path text = shown_text path ++ (codes ": unidentified" ++ (kind_text text ++ 10 ∷ []))

-- a line for each format, or that of a file without formats
abbrev pub format_lines : List ℕ → Option TextKind → List ShownFormat → List ℕ
format_lines path text [] = unidentified_line path text
format_lines path text (its ∷ more) = format_line path its ++ flat_map (format_line path) more

-- the name of a hash
abbrev pub hash_name : HashKind → List ℕ
hash_name hashes.Nothing = codes "none"
hash_name hashes.Md5 = codes "md5"
hash_name hashes.Sha256 = codes "sha256"

-- `PATH: md5 DIGITS`
abbrev pub hash_line : List ℕ → Option ShownHash → List ℕ
hash_line path None = []
hash_line path (Some hash) =
    shown_text path ++ (codes ": " ++ (hash_name hash.kind ++ (codes " " ++ (hash.digits.now ++ 10 ∷ []))))

-- all lines of a file
abbrev pub file_lines : ShownFile → List ℕ
file_lines file = hash_line file.path.now file.hash ++ format_lines file.path.now file.text file.formats.now

-- ---- the PUIDs alone

-- the PUID on a line of its own
abbrev pub puid_line : ShownFormat → List ℕ
puid_line its = its.format.now.puid ++ 10 ∷ []

-- a line for each format; nothing of a file without formats
abbrev pub puid_lines : List ShownFormat → List ℕ
puid_lines formats = flat_map puid_line formats
