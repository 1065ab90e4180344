-- The lines of a script, and the request of each (this project's own rule).
use Rattle.std.specs.Prelude.{ℕ, ◌^◌, ◌==◌, ◌&&◌, nat_le, if◌then◌else◌, Bool, true, false, List, [], ◌∷◌, length}
use Rattle.std.specs.Prelude.{codes, Option, Some, None}
use Rattle.std.specs.List.{slice_split, list_all}
use Rattle.std.specs.Str.{bytes_eq}
use Rattle.droid_frame.specs.declared.criterion.Criterion.{Criterion}
use Rattle.droid_frame.specs.declared.criterion.Criterion.TheVariants.{PuidIn, ExtIn}
use Rattle.droid_frame.specs.declared.hash_kind.HashKind.{HashKind}
use Rattle.droid_frame.specs.declared.hash_kind.HashKind.TheVariants as kinds
use Rattle.droid_frame.specs.declared.request.Request.{Request}
use Rattle.droid_frame.specs.declared.request.Request.TheVariants.{CreateProfile, Export}
use Rattle.droid_frame.specs.Bodies.{request_body}
use Rattle.droid_frame.specs.Limits.{body_limit}
use Rattle.droid_frame.specs.Reading.{◌>>=◌, text_at}
use Rattle.droid_frame.specs.Versions.{is_version}
use Rattle.droid_lines.specs.Requests.{request_words}
use Rattle.droid_lines.specs.Words.{number_word, word_at}
use Rattle.droid_lines.specs.declared.parser.Line.{Line}
use Rattle.droid_lines.specs.declared.parser.VersionedRequest.{VersionedRequest}

-- ---- lines

-- 10, which ends a line
abbrev pub is_line_feed : ℕ → Bool
is_line_feed byte = byte == 10

-- all but an empty last part
abbrev pub without_empty_end : List (List ℕ) → List (List ℕ)
without_empty_end [] = []
without_empty_end (part ∷ next ∷ parts) = part ∷ without_empty_end (next ∷ parts)
without_empty_end ([] ∷ []) = []
without_empty_end ((byte ∷ bytes) ∷ []) = (byte ∷ bytes) ∷ []

-- the input cut at its line feeds; the text after the last one is a line unless it is empty
unfoldable pub lines_of : List ℕ → List (List ℕ)
lines_of input = without_empty_end (slice_split is_line_feed input)

-- ---- what fits into a frame

-- at most 255 texts, each of at most 255 bytes
abbrev pub list_fits : List (List ℕ) → Bool
list_fits texts = nat_le (length texts) 255 && list_all (λ text. nat_le (length text) 255) texts

-- a list of texts has to fit, and any other value does
abbrev pub criterion_fits : Criterion → Bool
criterion_fits (PuidIn texts) = list_fits texts
criterion_fits (ExtIn texts) = list_fits texts
criterion_fits _ = true

-- at most 255 criteria, each short enough
abbrev pub criteria_fit : List Criterion → Bool
criteria_fit criteria = nat_le (length criteria) 255 && list_all criterion_fits criteria

-- only an export has lists
abbrev pub lists_fit : Request → Bool
lists_fit (Export profile from max filter) = criteria_fit filter.criteria
lists_fit _ = true

-- the one kind of hash that version 1 has
abbrev pub is_md5 : HashKind → Bool
is_md5 kinds.Nothing = false
is_md5 kinds.Md5 = true
is_md5 kinds.Sha256 = false

-- version 1 has MD5 alone, and version 2 every kind of hash
abbrev pub hash_fits : ℕ → Request → Bool
hash_fits version (CreateProfile scan_limit match_all hash) = if version == 1 then is_md5 hash else true
hash_fits version _ = true

-- a body has at most 1,048,640 bytes in version 1, and 4,194,368 in version 2
abbrev pub body_fits : ℕ → List ℕ → Bool
body_fits version body = nat_le (length body) (body_limit version)

-- the version exists, and its frames hold this request
unfoldable pub request_fits : ℕ → Request → Bool
request_fits version request =
    is_version version
    && (body_fits version (request_body version request) && (lists_fit request && hash_fits version request))

-- ---- the version of a line

-- the same, by the first word, if a space follows it
abbrev pub version_by : List ℕ → Option (List ℕ × List ℕ) → ℕ × List ℕ
version_by text None = (1, text)
version_by text (Some word) = if bytes_eq word.0 (codes "v2") then (2, word.1) else (1, text)

-- a line with `v2 ` in front is of version 2, and the text after it is the line; any other line is of version 1
unfoldable pub version_at : List ℕ → ℕ × List ℕ
version_at text = version_by text (word_at text)

-- ---- the request of a line

-- the line, if its request fits into a frame of its version
unfoldable pub where_fitting : Line → Option Line
where_fitting line = if request_fits line.version line.request then Some line else None

-- `C N KIND`: the client, the number, the word of the kind, and the text after the space
unfoldable pub head_at : List ℕ → Option (ℕ × ℕ × List ℕ × List ℕ)
head_at text = do
  client ← number_word (2 ^ 32) text
  number ← number_word (2 ^ 64) client.1
  kind ← word_at number.1
  Some (client.0, number.0, kind.0, kind.1)

-- `C N KIND ..` in this version
unfoldable pub numbered_line : ℕ → List ℕ → Option Line
numbered_line version text = do
  head ← head_at text
  request ← request_words version head.2 head.3
  where_fitting (record { version = version; client = head.0; number = head.1; request = request })

-- `C N KIND ..`, or `v2 C N KIND ..`
unfoldable pub text_line : List ℕ → Option Line
text_line text = numbered_line (version_at text).0 (version_at text).1

-- the request of a line; a bad line has none
unfoldable pub line_value : List ℕ → Option Line
line_value bytes = do
  text ← text_at bytes
  text_line text

-- ---- lines without client and number

-- the request, if it fits into a frame of its version
unfoldable pub request_where_fitting : VersionedRequest → Option VersionedRequest
request_where_fitting asked = if request_fits asked.version asked.request then Some asked else None

-- `KIND ..` in this version
unfoldable pub unnumbered_line : ℕ → List ℕ → Option VersionedRequest
unnumbered_line version text = do
  kind ← word_at text
  request ← request_words version kind.0 kind.1
  request_where_fitting (record { version = version; request = request })

-- `KIND ..`, or `v2 KIND ..`
unfoldable pub text_request : List ℕ → Option VersionedRequest
text_request text = unnumbered_line (version_at text).0 (version_at text).1

-- the request and version of a line without client and number; a bad line has none
unfoldable pub request_value : List ℕ → Option VersionedRequest
request_value bytes = do
  text ← text_at bytes
  text_request text
