-- Rows that are alike: for each format and for each content what its rows come to.
use Rattle.std.specs.Prelude.{◌≡◌, ◌≢◌, ℕ, ◌+◌, ◌==◌, ◌&&◌, not, Bool, List, [], ◌∷◌, ◌++◌, length, count_by, true}
use Rattle.std.specs.Prelude.{Option, Some, None, codes, decimal, if◌then◌else◌, String, string_bytes}
use Rattle.std.specs.BTreeMap.{BTreeMap, get_by_text}
use Rattle.std.specs.List.{sum_by}
use Rattle.std.specs.Option.{option_map, unwrap_or}
use Rattle.std.specs.Str.{bytes_eq}
use Rattle.std.specs.declared.alloc.Global.{Global}
use Rattle.droid_export.specs.Table.{place_of}
use Rattle.droid_export.specs.declared.column.Column.TheVariants as columns
use Rattle.droid_report.specs.Rows.{Line, text_at}
use Rattle.droid_report.specs.Totals.{held, is_first_of_file}
use Rattle.droid_report.specs.declared.groups.GroupSum.{GroupSum}
use Rattle.droid_report.specs.declared.keys.Alike.{Alike}
use Rattle.droid_report.specs.declared.keys.Alike.TheVariants as alike

-- The text that rows have in common: the PUID, or the hash and the size of a file. Rows without a PUID, and files
-- without a hash, are like no other.
abbrev pub key_of : Alike → Line → List ℕ
key_of alike.Format line = text_at line.fields (place_of columns.Puid)
key_of alike.Content line =
    if is_first_of_file line && not (length (text_at line.fields (place_of columns.Hash)) == 0)
    then text_at line.fields (place_of columns.Hash) ++ (codes ", " ++ decimal line.facts.size) else []

-- whether a row is one of those with this key
abbrev pub has_key : Alike → List ℕ → Line → Bool
has_key alike key line = not (length (key_of alike line) == 0) && bytes_eq (key_of alike line) key

-- what the law on keys of contents says in their place: two files with one hash and one size
pub record IsContentOf (one other : Line) : Type 0 where
  pub first : is_first_of_file one ≡ true
  pub second : is_first_of_file other ≡ true
  pub some : text_at one.fields (place_of columns.Hash) ≢ []
  pub hash : text_at one.fields (place_of columns.Hash) ≡ text_at other.fields (place_of columns.Hash)
  pub size : one.facts.size ≡ other.facts.size

-- the name and version of a format
abbrev pub format_label : List ℕ → List ℕ → List ℕ
format_label name version = name ++ (codes " " ++ version)

-- the name of the group that a row begins: of a format its name and version, of equal files the path
abbrev pub label_of : Alike → Line → List ℕ
label_of alike.Format line =
    format_label (text_at line.fields (place_of columns.FormatName))
    (text_at line.fields (place_of columns.FormatVersion))
label_of alike.Content line = text_at line.fields (place_of columns.FilePath)

-- what the rows of a group come to, without where it lies in memory
pub record Summed : Type 0 where
  pub count : ℕ
  pub bytes : ℕ
  pub first_size : ℕ
  pub label : List ℕ

-- a group of a table, seen so
abbrev pub summed : GroupSum → Summed
summed sum =
    record { count = sum.count; bytes = sum.bytes; first_size = sum.first_size; label = string_bytes sum.label }

-- what a table has for a key
abbrev pub sum_at : BTreeMap (String Global) GroupSum → List ℕ → Option Summed
sum_at groups key = option_map summed (get_by_text groups key)

-- the first row that passes a test
abbrev pub first_with : (Line → Bool) → List Line → Option Line
first_with test [] = None
first_with test (line ∷ lines) = if test line then Some line else first_with test lines

-- the size of a row, if it passes a test
abbrev pub size_if : (Line → Bool) → Line → ℕ
size_if test line = if test line then line.facts.size else 0

-- what the rows that pass a test come to, if this is the first of them: how many they are, and the sum of their sizes
abbrev pub sum_of : Alike → (Line → Bool) → List Line → Line → Summed
sum_of alike test lines first =
    record {
      count = held (count_by test lines);
      bytes = held (sum_by (size_if test) lines);
      first_size = first.facts.size;
      label = label_of alike first;
    }

-- the group of a key, if there are rows with it
abbrev pub group_of : Alike → List ℕ → List Line → Option Summed
group_of alike key lines = option_map (sum_of alike (has_key alike key) lines) (first_with (has_key alike key) lines)

-- for each key exactly the group of the rows that have it
abbrev pub AreGroups : Alike → List Line → BTreeMap (String Global) GroupSum → Type 0
AreGroups alike lines groups = (key : List ℕ) → sum_at groups key ≡ group_of alike key lines

-- ---- for inner clauses and proofs: one row more

-- the group that a row begins, before that row is counted
abbrev pub fresh : Alike → Line → Summed
fresh alike line = record { count = 0; bytes = 0; first_size = line.facts.size; label = label_of alike line }

-- a group with one row more, of this size
abbrev pub grown : Summed → ℕ → Summed
grown sum size = record {
  count = held (sum.count + 1);
  bytes = held (sum.bytes + size);
  first_size = sum.first_size;
  label = sum.label;
}

-- what a table has for a key after a row
abbrev pub sum_after : Alike → List ℕ → Option Summed → Line → Option Summed
sum_after alike key old line =
    if has_key alike key line then Some (grown (unwrap_or old (fresh alike line)) line.facts.size) else old
