-- The tables of a report.
use Rattle.std.specs.Prelude.{ℕ, ◌-◌, ◌==◌, ◌||◌, min, Bool, List, [], ◌∷◌, ◌++◌, codes, decimal, drop, length, map}
use Rattle.std.specs.Prelude.{nat_eq, take, if◌then◌else◌}
use Rattle.std.specs.List.{starts_with}
use Rattle.droid_export.specs.Table.{place_of}
use Rattle.droid_export.specs.declared.column.Column.TheVariants as columns
use Rattle.droid_report.specs.Lines.{line_of}
use Rattle.droid_report.specs.Ranks.{together}
use Rattle.droid_report.specs.Rows.{text_at}
use Rattle.droid_report.specs.declared.classes.By.{By}
use Rattle.droid_report.specs.declared.classes.By.TheVariants as by
use Rattle.droid_report.specs.declared.classes.Classes.{Classes}
use Rattle.droid_report.specs.declared.lists.Lists.{Lists}
use Rattle.droid_report.specs.declared.ranks.Group.{Group}
use Rattle.droid_report.specs.declared.row.Row.{Row}
use Rattle.droid_report.specs.declared.totals.Totals.{Totals}
use Rattle.droid_report.specs.ShownClasses.{class_rows}
use Rattle.droid_report.specs.Pictures.{picture_note, picture_rows}
use Rattle.droid_report.specs.Seen.{Amount, Link, Seen, Shown, Words}
use Rattle.droid_report.specs.declared.view.orders.Orders.{Orders}
use Rattle.droid_report.specs.declared.view.picture.Measure.{Measure}
use Rattle.droid_report.specs.declared.view.picture.Measure.TheVariants as measures
use Rattle.droid_report.specs.declared.texts.TheConstants as texts

-- how many rows more there are, and where to find them
unfoldable pub more_text : ℕ → List ℕ → List ℕ
more_text more elsewhere = if more == 0 then [] else decimal more ++ (texts.MORE.now ++ elsewhere)

-- ---- totals

-- a name and a number
abbrev pub figure : List ℕ → ℕ → List Seen
figure name number = Words name ∷ Amount number ∷ []

-- folders, files and bytes
abbrev pub count_figures : Totals → List (List Seen)
count_figures totals =
    figure texts.FOLDERS.now totals.folders ∷ figure texts.FILES.now totals.files ∷ figure texts.BYTES.now totals.bytes
    ∷ []

-- how many files were identified by which method
abbrev pub method_figures : Totals → List (List Seen)
method_figures totals =
    figure texts.BY_SIGNATURE.now totals.by_signature ∷ figure texts.BY_EXTENSION.now totals.by_extension
    ∷ figure texts.UNIDENTIFIED.now totals.unidentified ∷ []

-- how many files ask for a look
abbrev pub odd_figures : Totals → List (List Seen)
odd_figures totals =
    figure texts.MISMATCHES.now totals.mismatches ∷ figure texts.SEVERAL_FORMATS.now totals.several_formats
    ∷ figure texts.EMPTY.now totals.empty ∷ []

-- how many formats there are, how many files are copies of others, and their bytes
abbrev pub group_figures : Orders → List (List Seen)
group_figures orders =
    figure texts.FORMATS.now (length orders.by_count.items)
    ∷ figure texts.COPIES.now ((together orders.copies.items).count - length orders.copies.items)
    ∷ figure texts.COPIED_BYTES.now (together orders.copies.items).saved
    ∷ []

-- all rows of the table of totals
abbrev pub figures : Totals → Orders → List (List Seen)
figures totals orders = ((count_figures totals ++ method_figures totals) ++ odd_figures totals) ++ group_figures orders

-- the table of totals
abbrev pub totals_table : Totals → Orders → Shown
totals_table totals orders = record {
  title = texts.TOTALS.now;
  note = texts.NO_NOTE.now;
  heads = texts.WHAT.now ∷ texts.NUMBER.now ∷ [];
  rows = figures totals orders;
}

-- ---- pictures

-- a picture of formats by one measure, as a table with bars
abbrev pub picture : List ℕ → List ℕ → List Group → Measure → ℕ → Shown
picture title unit groups measure limit =
    record {
      title = title;
      note = picture_note limit;
      heads = texts.FORMAT.now ∷ unit ∷ texts.SHARE.now ∷ [];
      rows = picture_rows measure limit groups;
    }

-- the two pictures of formats: by files and by bytes
abbrev pub pictures : Orders → ℕ → List Shown
pictures orders limit =
    picture texts.FORMATS_BY_FILES.now texts.FILES.now orders.by_count.items measures.Files limit
    ∷ picture texts.FORMATS_BY_BYTES.now texts.BYTES.now orders.by_bytes.items measures.Bytes limit
    ∷ []

-- the totals, and the pictures of formats
abbrev pub overview : Totals → Orders → ℕ → List Shown
overview totals orders limit = totals_table totals orders ∷ pictures orders limit

-- the table of one kind of classes; `limit` is how many rows it has at most
abbrev pub class_table : List ℕ → List ℕ → List ℕ → By → List ℕ → ℕ → Shown
class_table title note head by counts limit = record {
  title = title;
  note = note;
  heads = head ∷ texts.FILES.now ∷ texts.SHARE.now ∷ [];
  rows = take limit (class_rows by counts);
}

-- the tables by year, size and depth; those by size and depth have all rows: at most 65, the last class of depths and 0
abbrev pub class_tables : Classes → ℕ → List Shown
class_tables classes limit =
    class_table texts.YEARS.now texts.YEARS_NOTE.now texts.YEAR.now by.Year classes.years.items limit
    ∷ class_table texts.SIZES.now texts.SIZES_NOTE.now texts.SIZE.now by.Size classes.sizes.items 65
    ∷ class_table texts.DEPTH.now texts.DEPTH_NOTE.now texts.SLASHES.now by.Depth classes.depths.items 65
    ∷ []

-- ---- groups

-- whether a PUID is PRONOM's
abbrev pub is_pronom : List ℕ → Bool
is_pronom puid = starts_with nat_eq puid (codes "fmt/") || starts_with nat_eq puid (codes "x-fmt/")

-- a PUID, which leads to PRONOM's page for it if it is PRONOM's
abbrev pub puid_seen : List ℕ → Seen
puid_seen puid =
    if is_pronom puid then Link (codes "https://www.nationalarchives.gov.uk/PRONOM/" ++ puid) puid else Words puid

-- a format: its PUID, its name, its files and their bytes
abbrev pub format_row : Group → List Seen
format_row group = puid_seen group.key.now ∷ Words group.label.now ∷ Amount group.count ∷ Amount group.bytes ∷ []

-- the table of formats, those with the most files first
abbrev pub format_table : List Group → ℕ → Shown
format_table groups limit =
    record {
      title = texts.ALL_FORMATS.now;
      note = more_text (length (drop limit groups)) texts.FORMATS_ELSEWHERE.now;
      heads = texts.PUID.now ∷ texts.NAME.now ∷ texts.FILES.now ∷ texts.BYTES.now ∷ [];
      rows = map format_row (take limit groups);
    }

-- equal files: the path of the first, their hash and size, how many they are, and what the copies take
abbrev pub copy_row : Group → List Seen
copy_row group = Words group.label.now ∷ Words group.key.now ∷ Amount group.count ∷ Amount group.saved ∷ []

-- the table of equal files, those whose copies take the most bytes first
abbrev pub copy_table : List Group → ℕ → Shown
copy_table groups limit =
    record {
      title = texts.EQUAL.now;
      note = more_text (length (drop limit groups)) texts.EQUAL_ELSEWHERE.now;
      heads = texts.FIRST_PATH.now ∷ texts.HASH_AND_SIZE.now ∷ texts.FILES.now ∷ texts.SAVED.now ∷ [];
      rows = map copy_row (take limit groups);
    }

-- the tables of formats and of equal files
abbrev pub group_tables : Orders → ℕ → List Shown
group_tables orders limit = format_table orders.by_count.items limit ∷ copy_table orders.copies.items limit ∷ []

-- ---- files

-- a file: its path, its size, and when it was changed
abbrev pub file_row : Row → List Seen
file_row row =
    Words (text_at (line_of row).fields (place_of columns.FilePath)) ∷ Amount row.facts.size
    ∷ Words (text_at (line_of row).fields (place_of columns.LastModified)) ∷ []

-- how many of `total` files a list of these rows leaves out
abbrev pub note_for : ℕ → List Row → ℕ → List ℕ → List ℕ
note_for total rows limit elsewhere = more_text (total - min limit (length rows)) elsewhere

-- a list of files
abbrev pub file_table : List ℕ → List ℕ → List Row → ℕ → Shown
file_table title note rows limit =
    record {
      title = title;
      note = note;
      heads = texts.PATH.now ∷ texts.BYTES.now ∷ texts.CHANGED.now ∷ [];
      rows = map file_row (take limit rows);
    }

-- a list of files, with a note of how many more there are
abbrev pub list_table : List ℕ → ℕ → List ℕ → List Row → ℕ → Shown
list_table title total elsewhere rows limit = file_table title (note_for total rows limit elsewhere) rows limit

-- the lists of files that ask for a look
abbrev pub list_tables : Totals → Lists → ℕ → List Shown
list_tables totals lists limit =
    list_table texts.NOT_IDENTIFIED.now totals.unidentified texts.UNIDENTIFIED_ELSEWHERE.now lists.unidentified.items
    limit
    ∷ list_table texts.UNEXPECTED.now totals.mismatches texts.MISMATCHES_ELSEWHERE.now lists.mismatches.items limit
    ∷ list_table texts.SEVERAL.now totals.several_formats texts.SEVERAL_ELSEWHERE.now lists.several_formats.items limit
    ∷ []

-- the lists of the largest, the oldest and the newest files
abbrev pub extreme_tables : Totals → Lists → ℕ → List Shown
extreme_tables totals lists limit =
    list_table texts.LARGEST_FILES.now totals.files texts.LARGEST_ELSEWHERE.now lists.largest.items limit
    ∷ file_table texts.OLDEST.now texts.AGE_NOTE.now lists.oldest.items limit
    ∷ file_table texts.NEWEST.now texts.AGE_NOTE.now lists.newest.items limit
    ∷ []
