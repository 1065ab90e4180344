-- The totals of a report: sums over the rows of a profile.
use Rattle.std.specs.Prelude.{◌≡◌, ℕ, ◌+◌, ◌-◌, ◌^◌, ◌==◌, ◌&&◌, nat_lt, not, min, Bool, true, false, List, count_by}
use Rattle.std.specs.Prelude.{if◌then◌else◌}
use Rattle.std.specs.List.{sum_by}
use Rattle.droid_frame.specs.Filters.{is_file}
use Rattle.droid_frame.specs.declared.method.Method.{Method}
use Rattle.droid_frame.specs.declared.method.Method.TheVariants as methods
use Rattle.droid_report.specs.Rows.{Line}
use Rattle.droid_report.specs.declared.totals.Totals.{Totals}
use Rattle.droid_report.specs.declared.totals.What.{What}
use Rattle.droid_report.specs.declared.totals.What.TheVariants as what

-- The first row of each file: a file with several formats counts once.
abbrev pub is_first_of_file : Line → Bool
is_first_of_file line = line.is_first && is_file line.facts.kind

-- whether a file was identified by a signature
abbrev pub is_by_signature : Method → Bool
is_by_signature methods.Unidentified = false
is_by_signature methods.Signature = true
is_by_signature methods.Extension = false

-- whether a file was identified by its extension
abbrev pub is_by_extension : Method → Bool
is_by_extension methods.Unidentified = false
is_by_extension methods.Signature = false
is_by_extension methods.Extension = true

-- whether a file was not identified
abbrev pub is_unidentified : Method → Bool
is_unidentified methods.Unidentified = true
is_unidentified methods.Signature = false
is_unidentified methods.Extension = false

-- whether a row counts for a total
abbrev pub is_counted : What → Line → Bool
is_counted what.Folders line = line.is_first && not (is_file line.facts.kind)
is_counted what.Files line = is_first_of_file line
is_counted what.BySignature line = is_first_of_file line && is_by_signature line.facts.method
is_counted what.ByExtension line = is_first_of_file line && is_by_extension line.facts.method
is_counted what.Unidentified line = is_first_of_file line && is_unidentified line.facts.method
is_counted what.Mismatches line = is_first_of_file line && line.facts.is_mismatch
is_counted what.SeveralFormats line = is_first_of_file line && nat_lt 1 line.facts.formats
is_counted what.Empty line = is_first_of_file line && (line.facts.size == 0)

-- the bytes that a row adds to those of all files
abbrev pub bytes_of : Line → ℕ
bytes_of line = if is_first_of_file line then line.facts.size else 0

-- what 64 bits hold of a sum
abbrev pub held : ℕ → ℕ
held sum = min sum (2 ^ 64 - 1)

-- a total: how many rows count for it
abbrev pub total : What → List Line → ℕ
total what lines = held (count_by (is_counted what) lines)

-- the bytes of all files
abbrev pub total_bytes : List Line → ℕ
total_bytes lines = held (sum_by bytes_of lines)

-- the totals of these rows
pub record AreTotals (lines : List Line) (totals : Totals) : Type 0 where
  pub folders : totals.folders ≡ total what.Folders lines
  pub files : totals.files ≡ total what.Files lines
  pub by_signature : totals.by_signature ≡ total what.BySignature lines
  pub by_extension : totals.by_extension ≡ total what.ByExtension lines
  pub unidentified : totals.unidentified ≡ total what.Unidentified lines
  pub mismatches : totals.mismatches ≡ total what.Mismatches lines
  pub several_formats : totals.several_formats ≡ total what.SeveralFormats lines
  pub empty : totals.empty ≡ total what.Empty lines
  pub bytes : totals.bytes ≡ total_bytes lines

-- ---- for inner clauses and proofs: one row more

-- a total after one row more
abbrev pub counted : What → ℕ → Line → ℕ
counted what count line = if is_counted what line then held (count + 1) else count

-- the totals before the first row
abbrev pub no_totals : Totals
no_totals =
    record {
      folders = 0;
      files = 0;
      by_signature = 0;
      by_extension = 0;
      unidentified = 0;
      mismatches = 0;
      several_formats = 0;
      empty = 0;
      bytes = 0;
    }

-- the totals after one row more
abbrev pub totals_after : Totals → Line → Totals
totals_after totals line =
    record {
      folders = counted what.Folders totals.folders line;
      files = counted what.Files totals.files line;
      by_signature = counted what.BySignature totals.by_signature line;
      by_extension = counted what.ByExtension totals.by_extension line;
      unidentified = counted what.Unidentified totals.unidentified line;
      mismatches = counted what.Mismatches totals.mismatches line;
      several_formats = counted what.SeveralFormats totals.several_formats line;
      empty = counted what.Empty totals.empty line;
      bytes = held (totals.bytes + bytes_of line);
    }
