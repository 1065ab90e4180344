-- Rows whose fields all stand between double quotes and have none in them, as in most rows that this program writes
-- (docs/CSV.md).
use Rattle.std.specs.Prelude.{◌≡◌, ℕ, ◌==◌, Bool, true, not, List, ◌∷◌, ◌++◌, map, None, Ok}
use Rattle.std.specs.Borrow.{Bor}
use Rattle.std.specs.List.{list_all}
use Rattle.droid_frame.specs.declared.hash_kind.HashKind.{HashKind}
use Rattle.droid_export.specs.Headers.{whole}
use Rattle.droid_export.specs.FormatRows.{rows_behind, rows_if}
use Rattle.droid_export.specs.Profiles.{Draft, Behind, items_from, no_rows}
use Rattle.droid_export.specs.declared.reading.profile.Profile.{Profile}

-- a double quote
abbrev pub is_quote : ℕ → Bool
is_quote b = b == 34

-- any other byte
abbrev pub is_no_quote : ℕ → Bool
is_no_quote b = not (is_quote b)

-- a text begins with this field between double quotes, none of which is in it; then come a mark and the rest
pub record IsQuoted (mark : ℕ) (text field rest : List ℕ) : Type 0 where
  pub whole : text ≡ 34 ∷ (field ++ 34 ∷ mark ∷ rest)
  pub plain : list_all is_no_quote field ≡ true

-- the bytes of fields that are parts of a text
abbrev pub fields_in : List (Bor (List ℕ)) → List (List ℕ)
fields_in fields = map (λ field. field.now) fields

-- what was read when only the header with all columns was
abbrev pub after_header : HashKind → Draft
after_header digest = record { stage = Behind (whole digest); records = 1; rows = no_rows; last = None }

-- what the records behind that header say
pub record IsOfRows (digest : HashKind) (formats : Bool) (records : List (List (List ℕ))) (profile : Profile)
    : Type 0 where
  pub items : items_from (after_header digest) records ≡ Ok profile.items.items
  pub its_formats : profile.formats.items ≡ rows_if formats (rows_behind (whole digest) records)
