-- What a list says, and the formats that it gives files (this project's own).
use Rattle.std.specs.Prelude.{◌≡◌, ◌&&◌, ◌++◌, ℕ, Bool, true, false, not, List, Option, Some, None, Result, Ok, Err}
use Rattle.std.specs.Prelude.{Vec, ⊤, codes, if◌then◌else◌}
use Rattle.std.specs.declared.alloc.Global.{Global}
use Rattle.droid_frame.specs.declared.hash_kind.HashKind.{HashKind}
use Rattle.droid_frame.specs.declared.hash_kind.HashKind.TheVariants as kinds
use Rattle.droid_export.specs.FormatRows.{HasRows}
use Rattle.droid_arguments.specs.declared.verify.VerifyOptions.{VerifyOptions}
use Rattle.droid_lists.specs.ListForms.{form_of, names_files_alone}
use Rattle.droid_lists.specs.Listings.{ListSays}
use Rattle.droid_cmd_verify.specs.declared.measure.Measure.{Measure}
use Rattle.droid_cmd_verify.specs.declared.measure.Measure.TheVariants.{Hashes, Sizes, Moments}
use Rattle.droid_export.specs.declared.reading.format_row.FormatRow.{FormatRow}
use Rattle.droid_lists.specs.declared.list_form.ListForm.{ListForm}
use Rattle.droid_lists.specs.declared.list_form.ListForm.TheVariants.{Profile, Checksum}
use Rattle.droid_lists.specs.declared.list_content.Listed.{Listed}
use Rattle.droid_fixity.specs.declared.checksum_lists.form.ManifestForm.TheVariants as forms
use Rattle.droid_cmd_verify.specs.declared.lists.ComparedList.{ComparedList}
use Rattle.droid_cmd_verify.specs.declared.verify_ending.VerifyEnding.{VerifyEnding}
use Rattle.droid_cmd_verify.specs.declared.verify_ending.VerifyEnding.TheVariants.{HasHashes, NoList, NoFormats}
use Rattle.droid_cmd_verify.specs.declared.verify_ending.VerifyEnding.TheVariants.{NoMemory}

-- by what files are compared, as `--quick` and `--sizes-only` say
abbrev pub measure_of : Bool → Bool → Measure
measure_of true sizes_only = Moments
measure_of false true = Sizes
measure_of false false = Hashes

-- sizes alone are compared only where no file of the list has a hash
abbrev pub may_measure : Measure → HashKind → Bool
may_measure Hashes hash = true
may_measure Sizes kinds.Nothing = true
may_measure Sizes kinds.Md5 = false
may_measure Sizes kinds.Sha256 = false
may_measure Moments hash = true

-- formats are compared if that is asked for, and files are read
abbrev pub is_identified : VerifyOptions → Bool
is_identified options = options.identify && not options.quick

-- the path of the folder whose files a list names: for the manifest of a bag (RFC 8493, section 2.1.2), the folder
-- `data` of it
abbrev pub listed_folder : List ℕ → ListForm → List ℕ
listed_folder folder (Checksum forms.Bag) = folder ++ codes "/data"
listed_folder folder (Checksum forms.Checksums) = folder
listed_folder folder Profile = folder

-- the rows are those of the text if formats are compared, and otherwise there are none
abbrev pub AreRows : Bool → List ℕ → Option (Vec FormatRow Global) → Type 0
AreRows true text (Some rows) = HasRows text rows.items
AreRows true text None = ⊥
AreRows false text (Some rows) = ⊥
AreRows false text None = ⊤

-- a list comes with its rows, if formats are compared; a list that names files alone has none for that
abbrev pub GivesComparedList : Measure → Bool → Listed → Vec FormatRow Global → Result ComparedList VerifyEnding
    → Type 0
GivesComparedList how identify listed rows (Ok lists) =
    (lists.listed ≡ listed) × (lists.rows ≡ (if identify then Some rows else None)) × (lists.how ≡ how)
    × ((identify && names_files_alone listed.form) ≡ false)
GivesComparedList how identify listed rows (Err NoFormats) = (identify ≡ true) × (names_files_alone listed.form ≡ true)
GivesComparedList how identify listed rows (Err _) = ⊥

-- What `read_lists` makes of a text: the list that it is (`ListSays` of `droid_lists`), with its rows and its measure;
-- or why it is none, or may not be compared so. Sizes alone are not compared where it has a hash.
abbrev pub IsComparedList : Bool → Measure → Bool → List ℕ → Result ComparedList VerifyEnding → Type 0
IsComparedList in_bag how identify text (Ok lists) =
    ListSays in_bag identify text (Ok lists.listed) × AreRows identify text lists.rows × (lists.how ≡ how)
    × (may_measure how lists.listed.hash ≡ true)
IsComparedList in_bag how identify text (Err HasHashes) =
    (listed : Listed) × ListSays in_bag identify text (Ok listed) × (may_measure how listed.hash ≡ false)
IsComparedList in_bag how identify text (Err (NoList fault)) = ListSays in_bag identify text (Err fault)
IsComparedList in_bag how identify text (Err NoFormats) =
    (identify ≡ true) × (names_files_alone (form_of in_bag text) ≡ true)
IsComparedList in_bag how identify text (Err NoMemory) = ⊤
IsComparedList in_bag how identify text (Err _) = ⊥
