-- The text after the word `export`, and the criteria of a filter (this project's own rule).
use Rattle.std.specs.Prelude.{ℕ, ◌^◌, if◌then◌else◌, Bool, true, false, List, [], ◌∷◌, codes, Option, Some, None}
use Rattle.std.specs.List.{slice_split}
use Rattle.std.specs.Str.{bytes_eq}
use Rattle.droid_frame.specs.declared.criterion.Criterion.{Criterion}
use Rattle.droid_frame.specs.declared.criterion.Criterion.TheVariants.{MethodIs, PuidIn, ExtIn, MismatchIs, SizeAtLeast}
use Rattle.droid_frame.specs.declared.criterion.Criterion.TheVariants.{SizeAtMost, KindIs}
use Rattle.droid_frame.specs.declared.filter.Filter.{Filter}
use Rattle.droid_frame.specs.declared.method.Method.TheVariants.{Unidentified, Signature, Extension}
use Rattle.droid_frame.specs.declared.node_kind.NodeKind.TheVariants.{File, Folder}
use Rattle.droid_frame.specs.declared.request.Request.{Request}
use Rattle.droid_frame.specs.declared.request.Request.TheVariants.{Export}
use Rattle.droid_frame.specs.Reading.{◌>>=◌}
use Rattle.droid_lines.specs.Words.{is_byte, cut_at, first_word, number_below, number_word}

-- ---- the words of a criterion

-- `none`, `Signature` or `Extension`
unfoldable pub method_word : List ℕ → Option Criterion
method_word word =
    if bytes_eq word (codes "none") then Some (MethodIs Unidentified)
    else if bytes_eq word (codes "Signature") then Some (MethodIs Signature)
    else if bytes_eq word (codes "Extension") then Some (MethodIs Extension)
    else None

-- `false` or `true`
unfoldable pub mismatch_word : List ℕ → Option Criterion
mismatch_word word =
    if bytes_eq word (codes "false") then Some (MismatchIs false)
    else if bytes_eq word (codes "true") then Some (MismatchIs true)
    else None

-- `File` or `Folder`
unfoldable pub kind_word : List ℕ → Option Criterion
kind_word word =
    if bytes_eq word (codes "File") then Some (KindIs File)
    else if bytes_eq word (codes "Folder") then Some (KindIs Folder)
    else None

-- the least size, in bytes
unfoldable pub least_word : List ℕ → Option Criterion
least_word word = do
  size ← number_below (2 ^ 64) word
  Some (SizeAtLeast size)

-- the largest size, in bytes
unfoldable pub most_word : List ℕ → Option Criterion
most_word word = do
  size ← number_below (2 ^ 64) word
  Some (SizeAtMost size)

-- the texts between commas; an empty value gives one empty text
unfoldable pub list_word : List ℕ → List (List ℕ)
list_word word = slice_split (is_byte 44) word

-- the text before the `=` of a criterion, and the text after it
unfoldable pub criterion_of : List ℕ → List ℕ → Option Criterion
criterion_of name value =
    if bytes_eq name (codes "method") then method_word value
    else if bytes_eq name (codes "puid") then Some (PuidIn (list_word value))
    else if bytes_eq name (codes "ext") then Some (ExtIn (list_word value))
    else if bytes_eq name (codes "mismatch") then mismatch_word value
    else if bytes_eq name (codes "atleast") then least_word value
    else if bytes_eq name (codes "atmost") then most_word value
    else if bytes_eq name (codes "type") then kind_word value
    else None

-- `NAME=VALUE`
unfoldable pub criterion_word : List ℕ → Option Criterion
criterion_word word = do
  parts ← cut_at 61 word
  criterion_of parts.0 parts.1

-- ---- filters

-- all values, if none is missing
abbrev pub every : {A B : Type 0} → (A → Option B) → List A → Option (List B)
every read [] = Some []
every read (x ∷ xs) = do
  value ← read x
  values ← every read xs
  Some (value ∷ values)

-- `CRITERION ..`
unfoldable pub criteria_words : List ℕ → Option (List Criterion)
criteria_words text = every criterion_word (slice_split (is_byte 32) text)

-- the criteria after the word that joins them, if any
unfoldable pub criteria_after : Option (List ℕ) → Option (List Criterion)
criteria_after None = Some []
criteria_after (Some text) = criteria_words text

-- `all` or `any`
unfoldable pub join_word : List ℕ → Option Bool
join_word word =
    if bytes_eq word (codes "all") then Some true
    else if bytes_eq word (codes "any") then Some false
    else None

-- `JOIN CRITERION ..`
unfoldable pub filter_words : List ℕ → Option Filter
filter_words text = do
  all ← join_word (first_word text).0
  criteria ← criteria_after (first_word text).1
  Some (record { all = all; criteria = criteria })

-- with no word after MAX, every record passes
unfoldable pub filter_after : Option (List ℕ) → Option Filter
filter_after None = Some (record { all = true; criteria = [] })
filter_after (Some text) = filter_words text

-- ---- exports

-- `PROFILE FROM MAX`, and the text after the space, if any
unfoldable pub export_place : List ℕ → Option (ℕ × ℕ × ℕ × Option (List ℕ))
export_place text = do
  profile ← number_word (2 ^ 32) text
  from ← number_word (2 ^ 64) profile.1
  max ← number_below (2 ^ 32) (first_word from.1).0
  Some (profile.0, from.0, max, (first_word from.1).1)

-- `PROFILE FROM MAX` or `PROFILE FROM MAX JOIN CRITERION ..`
unfoldable pub export_words : List ℕ → Option Request
export_words text = do
  place ← export_place text
  filter ← filter_after place.3
  Some (Export place.0 place.1 place.2 filter)
