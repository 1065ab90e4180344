-- What is said of a file, in JSON (RFC 8259).
use Rattle.std.specs.Prelude.{ℕ, ◌/◌, ◌%◌, ◌||◌, ◌==◌, nat_lt, Bool, false, List, [], ◌∷◌, ◌++◌, Option, Some, None}
use Rattle.std.specs.Prelude.{chars, codes, encode_utf8, flat_map, if◌then◌else◌}
use Rattle.std.specs.Fmt.{decimal, digits}
use Rattle.std.specs.List.{list_any}
use Rattle.droid_frame.specs.declared.method.Method.{Method}
use Rattle.droid_frame.specs.declared.method.Method.TheVariants as methods
use Rattle.droid_pronom.specs.declared.rows.Anchor.{Anchor}
use Rattle.droid_pronom.specs.declared.rows.Anchor.TheVariants.{Bof, Eof}
use Rattle.droid_identity.specs.declared.found_match.Match.{Match}
use Rattle.droid_identity.specs.declared.kind.TextKind.{TextKind}
use Rattle.droid_cmd_identify.specs.Lines.{hash_name, kind_name}
use Rattle.droid_cmd_identify.specs.declared.forms.shown_format.Reason.{Reason}
use Rattle.droid_cmd_identify.specs.declared.forms.shown_format.Reason.TheVariants.{Signature, Extension}
use Rattle.droid_cmd_identify.specs.declared.forms.shown_file.ShownFile.{ShownFile}
use Rattle.droid_cmd_identify.specs.declared.forms.shown_file.ShownHash.{ShownHash}
use Rattle.droid_cmd_identify.specs.declared.forms.shown_format.ShownFormat.{ShownFormat}

-- ---- strings

-- a quotation mark, a backslash, and what is below a space
abbrev pub needs_escape : ℕ → Bool
needs_escape c = (c == 34) || (c == 92) || nat_lt c 32

-- a character between the quotation marks: `\u00` and two digits below a space, else a backslash where it needs one
unfoldable pub json_char : ℕ → List ℕ
json_char c =
    if needs_escape c then (if nat_lt c 32 then codes "\\u00"
    ++ (digits 16 false (c / 16) ++ digits 16 false (c % 16)) else 92 ∷ encode_utf8 c)
    else encode_utf8 c

-- a text between the quotation marks
unfoldable pub json_inside : List ℕ → List ℕ
json_inside text = if list_any needs_escape (chars text) then flat_map json_char (chars text) else text

-- a text as a string
abbrev pub json_text : List ℕ → List ℕ
json_text text = 34 ∷ (json_inside text ++ 34 ∷ [])

abbrev pub json_bool : Bool → List ℕ
json_bool value = if value then codes "true" else codes "false"

-- ---- the basis

-- from which end of the file an offset is counted
abbrev pub end_name : Anchor → List ℕ
end_name Bof = codes "start"
end_name Eof = codes "end"

-- a match as an object
abbrev pub json_match : Match → List ℕ
json_match its =
    codes "{\"from\":\"" ++ (end_name its.anchor ++ (codes "\",\"offset\":"
    ++ (decimal its.offset ++ (codes ",\"length\":" ++ (decimal its.count ++ codes "}")))))

-- a match behind the first
abbrev pub json_more : Match → List ℕ
json_more its = codes "," ++ json_match its

-- matches, separated by commas
abbrev pub json_matches : List Match → List ℕ
json_matches [] = []
json_matches (its ∷ more) = json_match its ++ flat_map json_more more

-- why a file has a format, as an object
abbrev pub json_reason : Reason → List ℕ
json_reason (Signature number matches) = codes "{\"signature\":"
    ++ (decimal number ++ (codes ",\"matches\":[" ++ (json_matches matches.now ++ codes "]}")))
json_reason (Extension extension) = codes "{\"extension\":" ++ (json_text extension.now ++ codes "}")

-- ---- the formats

-- a format as an object
unfoldable pub json_format : ShownFormat → List ℕ
json_format its =
    codes "{\"puid\":" ++ (json_text its.format.now.puid ++ (codes ",\"name\":"
    ++ (json_text its.format.now.name ++ (codes ",\"version\":" ++ (json_text its.format.now.version
    ++ (codes ",\"mime\":" ++ (json_text its.format.now.mime
    ++ (codes ",\"basis\":" ++ (json_reason its.reason ++ codes "}")))))))))

-- a format behind the first
abbrev pub json_more_formats : ShownFormat → List ℕ
json_more_formats its = codes "," ++ json_format its

-- formats, separated by commas
abbrev pub json_formats : List ShownFormat → List ℕ
json_formats [] = []
json_formats (its ∷ more) = json_format its ++ flat_map json_more_formats more

-- how formats were found: a string, or null
abbrev pub json_method : Method → List ℕ
json_method methods.Signature = codes "\"signature\""
json_method methods.Extension = codes "\"extension\""
json_method methods.Unidentified = codes "null"

-- the kind of a plain text: a string, or null
abbrev pub json_kind : Option TextKind → List ℕ
json_kind None = codes "null"
json_kind (Some kind) = 34 ∷ (kind_name kind ++ 34 ∷ [])

-- a further member with the hash
abbrev pub json_hash : Option ShownHash → List ℕ
json_hash None = []
json_hash (Some hash) = codes ",\"" ++ (hash_name hash.kind ++ (codes "\":\"" ++ (hash.digits.now ++ codes "\"")))

-- one object, on a line of its own
abbrev pub json_line : ShownFile → List ℕ
json_line file =
    codes "{\"path\":" ++ (json_text file.path.now ++ (codes ",\"size\":"
    ++ (decimal file.size ++ (codes ",\"method\":" ++ (json_method file.method
    ++ (codes ",\"mismatch\":" ++ (json_bool file.mismatch
    ++ (codes ",\"text\":" ++ (json_kind file.text ++ (json_hash file.hash
    ++ (codes ",\"formats\":[" ++ (json_formats file.formats.now ++ (codes "]}" ++ 10 ∷ [])))))))))))))
