-- What the options of `identify` ask for (this project's own).
use Rattle.std.specs.Prelude.{◌≡◌, ◌&&◌, ◌||◌, ◌==◌, nat_lt, ℕ, Bool, true, false, not, List, [], length, count_by}
use Rattle.std.specs.Prelude.{Option, Some, None, codes, is_some, map, option_map, unwrap_or}
use Rattle.std.specs.Borrow.{Bor}
use Rattle.std.specs.declared.vec.Vec.{Vec}
use Rattle.std.specs.Str.{bytes_eq}
use Rattle.clap.specs.Words.{Row, Text, all_of, first_of, one_of}
use Rattle.droid_arguments.specs.Registries.{names_two}
use Rattle.droid_arguments.specs.Values.{IsFlag, IsHash, IsNumberOr}
use Rattle.droid_arguments.specs.declared.identify.IdentifyForm.{IdentifyForm}
use Rattle.droid_arguments.specs.declared.identify.IdentifyForm.TheVariants.{Lines, Puids, Csv, Json, Siegfried}
use Rattle.droid_arguments.specs.declared.identify.IdentifyOptions.{IdentifyOptions}
use Rattle.droid_frame.specs.declared.hash_kind.HashKind.{HashKind}
use Rattle.droid_frame.specs.declared.hash_kind.HashKind.TheVariants as hashes

-- ---- the files

-- the files that the words name
abbrev pub files_in : List Row → List Text
files_in rows = unwrap_or (all_of (codes "file") rows) []

-- a parse came to `identify`, and its words name these files
abbrev pub NamesFiles : {A : Type 0} → Option (Text × List Row) → Vec (Bor Text) A → Type 0
NamesFiles entered files =
    (rows : List Row) → entered ≡ Some (codes "identify", rows) → map (λ file. file.now) files.items ≡ files_in rows

-- the name that stands for standard input
abbrev pub is_dash : Text → Bool
is_dash name = bytes_eq name (codes "-")

-- how often it is named
abbrev pub dashes : List Text → ℕ
dashes files = count_by is_dash files

-- the list of files is read from standard input
abbrev pub is_input : Option Text → Bool
is_input None = false
is_input (Some list) = is_dash list

-- the output is lines
abbrev pub is_lines : IdentifyForm → Bool
is_lines Lines = true
is_lines Puids = false
is_lines Csv = false
is_lines Json = false
is_lines Siegfried = false

-- ---- what can't be used together, by how many files are named, and how many of them are standard input

-- standard input twice, or the list and a file
abbrev pub reads_twice : ℕ → Option Text → Bool
reads_twice inputs list = nat_lt 1 inputs || (is_input list && nat_lt 0 inputs)

-- No file and no list of files; how the names of a list end, and no list; the name of standard input, which is not
-- read; standard input twice; why a file does not have a format, in another form than lines.
unfoldable pub misfits : (files inputs : ℕ) → Option Text → Bool → (name why : Option Text) → IdentifyForm → Bool
misfits files inputs list zero name why form =
    (files == 0 && not (is_some list)) || (zero && not (is_some list)) || (is_some name && inputs == 0)
    || reads_twice inputs list || (is_some why && not (is_lines form))

-- ---- the options

-- the hash that a word names: none without one
abbrev pub IsHashOrNone : Option Text → HashKind → Type 0
IsHashOrNone None hash = hash ≡ hashes.Nothing
IsHashOrNone (Some text) hash = IsHash (Some text) hash

-- the form that the flags name: lines without one, and none by two
abbrev pub form_of : (csv json siegfried puid : Bool) → Option IdentifyForm
form_of false false false false = Some Lines
form_of true false false false = Some Csv
form_of false true false false = Some Json
form_of false false true false = Some Siegfried
form_of false false false true = Some Puids
form_of true true siegfried puid = None
form_of true false true puid = None
form_of true false false true = None
form_of false true true puid = None
form_of false true false true = None
form_of false false true true = None

-- the form that the four flags name
pub record IsForm (rows : List Row) (form : IdentifyForm) : Type 0 where
  pub csv : Bool
  pub is_csv : IsFlag (one_of (codes "csv") rows) csv
  pub json : Bool
  pub is_json : IsFlag (one_of (codes "json") rows) json
  pub siegfried : Bool
  pub is_siegfried : IsFlag (one_of (codes "json-sf") rows) siegfried
  pub puid : Bool
  pub is_puid : IsFlag (one_of (codes "puid") rows) puid
  pub one : form_of csv json siegfried puid ≡ Some form

-- the options of `identify`
pub record IsIdentify (rows : List Row) (options : IdentifyOptions) : Type 0 where
  pub recursive : IsFlag (one_of (codes "recursive") rows) options.recursive
  pub list : option_map (λ path. path.now) options.list ≡ first_of (codes "files-from") rows
  pub zero : IsFlag (one_of (codes "null") rows) options.zero
  pub name : option_map (λ text. text.now) options.name ≡ first_of (codes "name") rows
  pub registry : option_map (λ path. path.now) options.registry ≡ first_of (codes "registry") rows
  pub everyday : Bool
  pub is_flag : IsFlag (one_of (codes "everyday") rows) everyday
  pub names_one : names_two everyday (option_map (λ path. path.now) options.registry) ≡ false
  pub limit : IsNumberOr 32 65536 (one_of (codes "limit") rows) options.limit
  pub match_all : IsFlag (one_of (codes "match-all") rows) options.match_all
  pub hash : IsHashOrNone (first_of (codes "hash") rows) options.hash
  pub form : IsForm rows options.form
  pub why : option_map (λ text. text.now) options.why ≡ first_of (codes "why") rows
  pub fit : misfits (length (files_in rows)) (dashes (files_in rows)) (option_map (λ path. path.now) options.list)
      options.zero (option_map (λ text. text.now) options.name) (option_map (λ text. text.now) options.why) options.form
      ≡ false
