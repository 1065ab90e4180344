-- For inner clauses and proofs: maps that stand for what the rows so far say of formats.
use Rattle.std.specs.Prelude.{◌≡◌, ℕ, ◌+◌, ◌||◌, Bool, List, [], ◌∷◌, ◌++◌, length, Option, Some, None, if◌then◌else◌}
use Rattle.std.specs.BTreeMap.{btree_map_len, get_by_text}
use Rattle.std.specs.BTreeSet.{contains_text}
use Rattle.std.specs.List.{list_any}
use Rattle.std.specs.Option.{is_some}
use Rattle.std.specs.Str.{bytes_eq}
use Rattle.droid_hash.specs.Findings.{CoversPuids}
use Rattle.droid_lists.specs.ProfileRows.{has_puid, known_in, puids_by, puids_in, wrong_format}
use Rattle.droid_lists.specs.RowTests.{Row}
use Rattle.droid_lists.specs.declared.spelling.row_formats.Formats.{Formats}
use Rattle.droid_lists.specs.declared.spelling.row_formats.Texts.{Texts}
use Rattle.droid_lists.specs.declared.spelling.own_puids.OwnPuids.{OwnPuids}

-- ---- the formats of all rows

-- what the rows say of a PUID
abbrev pub known_at : Formats → List ℕ → Option Texts
known_at formats puid = get_by_text formats.texts puid

-- how many PUIDs there are
abbrev pub known_count : Formats → ℕ
known_count formats = btree_map_len formats.texts

-- all that these rows say of formats is known
pub record IsKnown (formats : Formats) (rows : List Row) : Type 0 where
  pub known : (puid : List ℕ) → known_at formats puid ≡ known_in rows puid
  pub count : known_count formats ≡ length (puids_in rows)

-- what was known first
abbrev pub known_or : Option Texts → Texts → Texts
known_or None new = new
known_or (Some known) new = known

-- what a row says of its PUID is noted, unless it was known
pub record AddsKnown (old new : Formats) (puid : List ℕ) (texts : Texts) : Type 0 where
  pub known : (other : List ℕ)
      → known_at new other
      ≡ (if bytes_eq other puid then Some (known_or (known_at old puid) texts) else known_at old other)
  pub count : known_count new ≡ (if is_some (known_at old puid) then known_count old else known_count old + 1)

-- ---- the PUIDs of one record

-- a row of the record has this PUID
abbrev pub own_has : OwnPuids → List ℕ → Bool
own_has own puid = contains_text own.puids puid

-- they are those of these rows
pub record HasOwn (own : OwnPuids) (rows : List Row) : Type 0 where
  pub has : (puid : List ℕ) → own_has own puid ≡ list_any (has_puid puid) rows
  pub digest : CoversPuids own.digest (puids_by rows)

-- the record has one more PUID
pub record AddsOwn (old new : OwnPuids) (puid : List ℕ) : Type 0 where
  pub has : (other : List ℕ) → own_has new other ≡ (bytes_eq other puid || own_has old other)
  pub digest : (before : List (List ℕ)) → CoversPuids old.digest before → CoversPuids new.digest (before ++ puid ∷ [])

-- ---- one more row

-- what comes of a row: its first wrong column, or it is noted
abbrev pub NotesFormat : Option ℕ → Formats → OwnPuids → List Row → List Row → ℕ → Row → Type 0
NotesFormat (Some column) new own before rows count row = wrong_format before rows count row ≡ Some column
NotesFormat None new own before rows count row =
    (wrong_format before rows count row ≡ None) × IsKnown new (before ++ row ∷ []) × HasOwn own (rows ++ row ∷ [])

-- the same behind any rows that the maps stand for
abbrev pub TakesFormat : Option ℕ → Formats → Formats → OwnPuids → OwnPuids → ℕ → Row → Type 0
TakesFormat wrong old new own_old own_new count row =
    (before rows : List Row) → IsKnown old before → HasOwn own_old rows
    → NotesFormat wrong new own_new before rows count row
