-- The document in the shape that Siegfried writes (its `sf -json`): one object of JSON, RFC 8259.
use Rattle.std.specs.Prelude.{ℕ, ◌+◌, ◌-◌, Bool, List, [], ◌∷◌, ◌++◌, Option, Some, None, codes, flat_map}
use Rattle.std.specs.Prelude.{if◌then◌else◌}
use Rattle.std.specs.Fmt.{decimal}
use Rattle.droid_frame.specs.declared.method.Method.{Method}
use Rattle.droid_frame.specs.declared.method.Method.TheVariants as methods
use Rattle.droid_pronom.specs.declared.format.Format.{Format}
use Rattle.droid_pronom.specs.declared.rows.Anchor.{Anchor}
use Rattle.droid_pronom.specs.declared.rows.Anchor.TheVariants.{Bof, Eof}
use Rattle.droid_identity.specs.declared.found_match.Match.{Match}
use Rattle.droid_identity.specs.declared.kind.TextKind.{TextKind}
use Rattle.droid_cmd_identify.specs.Json.{json_hash, json_inside, json_text}
use Rattle.droid_cmd_identify.specs.Lines.{kind_name}
use Rattle.droid_cmd_identify.specs.declared.forms.shown_file.ShownFile.{ShownFile}
use Rattle.droid_cmd_identify.specs.declared.forms.shown_format.Reason.{Reason}
use Rattle.droid_cmd_identify.specs.declared.forms.shown_format.Reason.TheVariants.{Signature, Extension}
use Rattle.droid_cmd_identify.specs.declared.forms.shown_format.ShownFormat.{ShownFormat}

-- ---- the beginning

-- up to the first file
abbrev pub sf_head : (program scanned registry created details : List ℕ) → List ℕ
sf_head program scanned registry created details =
    codes "{\"siegfried\":" ++ (json_text program ++ (codes ",\"scandate\":" ++ (json_text scanned
    ++ (codes ",\"signature\":" ++ (json_text registry ++ (codes ",\"created\":" ++ (json_text created
    ++ (codes ",\"identifiers\":[{\"name\":\"pronom\",\"details\":" ++ (json_text details
    ++ codes "}],\"files\":[")))))))))

-- a comma stands before each file but the first
abbrev pub comma : Bool → List ℕ
comma first = if first then [] else codes ","

-- ---- the basis

-- the number of bytes before a match
abbrev pub start_at : Anchor → (size offset count : ℕ) → ℕ
start_at Bof size offset count = offset
start_at Eof size offset count = size - (offset + count)

-- the same of a match in a file of this size
abbrev pub sf_start : ℕ → Match → ℕ
sf_start size its = start_at its.anchor size its.offset its.count

-- `[0 8]`
abbrev pub sf_pair : ℕ → Match → List ℕ
sf_pair size its = codes "[" ++ (decimal (sf_start size its) ++ (codes " " ++ (decimal its.count ++ codes "]")))

-- a pair behind the first
abbrev pub sf_more_pair : ℕ → Match → List ℕ
sf_more_pair size its = codes " " ++ sf_pair size its

-- pairs, separated by spaces
abbrev pub sf_pairs : ℕ → List Match → List ℕ
sf_pairs size [] = []
sf_pairs size (its ∷ more) = sf_pair size its ++ flat_map (sf_more_pair size) more

-- `0, 8` of one match, `[[0 8] [100 6]]` of several
abbrev pub sf_spans : ℕ → List Match → List ℕ
sf_spans size (its ∷ []) = decimal (sf_start size its) ++ (codes ", " ++ decimal its.count)
sf_spans size [] = codes "[" ++ (sf_pairs size [] ++ codes "]")
sf_spans size (its ∷ next ∷ more) = codes "[" ++ (sf_pairs size (its ∷ next ∷ more) ++ codes "]")

-- why a file of this size has a format
abbrev pub sf_basis : ℕ → Reason → List ℕ
sf_basis size (Signature number matches) = codes "byte match at " ++ sf_spans size matches.now
sf_basis size (Extension extension) = codes "extension match " ++ json_inside extension.now

-- `text match ASCII`; nothing of what is no plain text
abbrev pub sf_kind : Option TextKind → List ℕ
sf_kind None = []
sf_kind (Some kind) = codes "text match " ++ kind_name kind

-- ---- the files

-- what it warns of, or nothing
abbrev pub sf_warning : Method → Bool → List ℕ
sf_warning methods.Signature mismatch = if mismatch then codes "extension mismatch" else []
sf_warning methods.Extension mismatch = codes "match on extension only"
sf_warning methods.Unidentified mismatch = codes "no match"

-- its names
unfoldable pub sf_format : Format → List ℕ
sf_format format =
    codes "\"id\":" ++ (json_text format.puid ++ (codes ",\"format\":"
    ++ (json_text format.name ++ (codes ",\"version\":"
    ++ (json_text format.version ++ (codes ",\"mime\":" ++ json_text format.mime))))))

-- the match of a format in a file of this size
unfoldable pub sf_match : ℕ → Method → ShownFormat → List ℕ
sf_match size method its =
    codes "{\"ns\":\"pronom\"," ++ (sf_format its.format.now ++ (codes ",\"class\":\"\",\"basis\":\""
    ++ (sf_basis size its.reason ++ (codes "\",\"warning\":\""
    ++ (sf_warning method its.mismatch ++ codes "\"}")))))

-- a match behind the first
abbrev pub sf_more : ℕ → Method → ShownFormat → List ℕ
sf_more size method its = codes "," ++ sf_match size method its

-- one for each format, or one that names none
abbrev pub sf_matches : ℕ → Method → Option TextKind → List ShownFormat → List ℕ
sf_matches size method text [] =
    codes "{\"ns\":\"pronom\",\"id\":\"UNKNOWN\",\"format\":\"\",\"version\":\"\",\"mime\":\"\",\"class\":\"\",\"basis\":\""
    ++ (sf_kind text ++ codes "\",\"warning\":\"no match\"}")
sf_matches size method text (its ∷ more) = sf_match size method its ++ flat_map (sf_more size method) more

-- a file that was identified
abbrev pub sf_file : Bool → ShownFile → List ℕ
sf_file first file =
    comma first ++ (codes "{\"filename\":" ++ (json_text file.path.now ++ (codes ",\"filesize\":" ++ (decimal file.size
    ++ (codes ",\"modified\":" ++ (json_text file.modified.now ++ (codes ",\"errors\":\"\"" ++ (json_hash file.hash
    ++ (codes ",\"matches\":[" ++ (sf_matches file.size file.method file.text file.formats.now ++ codes "]}"))))))))))

-- a file that could not be read
abbrev pub sf_unread : Bool → (path why : List ℕ) → List ℕ
sf_unread first path why =
    comma first ++ (codes "{\"filename\":" ++ (json_text path
    ++ (codes ",\"filesize\":0,\"modified\":\"0001-01-01T00:00:00Z\",\"errors\":" ++ (json_text why
    ++ codes ",\"matches\":[]}"))))
