-- A row, written column by column.
use Rattle.std.proofs.Common.{◌≡◌, ◌==◌, ◌≤◌, ◌<◌, ℕ, suc, Bool, true, false, List, [], ◌∷◌, ◌++◌, length, map, slice_index, take, refl, ap, sym, ◌∙◌, arith, append-nil, append_assoc}
use Rattle.std.specs.List.{flat_map}
use Rattle.std.proofs.lemmas.Grind.{flat_map-append}
use Rattle.memchr.specs.Find.{Nowhere, Passes, is_byte}
use Rattle.droid_export.specs.Csv.{doubled, joined, line, quoted}
use Rattle.droid_export.specs.Rows.{Row}
use Rattle.droid_export.specs.Table.{columns, place_of}
use Rattle.droid_export.specs.Text.{piece, row_text}
use Rattle.droid_export.specs.declared.column.Column.{Column}
use Rattle.droid_export.specs.declared.column.Column.TheVariants.{FormatVersion}

-- a field and the comma behind it
abbrev comma_behind : Row → Column → List ℕ
comma_behind row column = quoted (row column) ++ 44 ∷ []

-- the first of at least two fields
joined_first : (field : List ℕ) (row : Row) (columns : List Column) (last : Column) → joined (field ∷ map row (columns ++ last ∷ [])) ≡ quoted field ++ 44 ∷ joined (map row (columns ++ last ∷ []))
unfolding joined
joined_first field row [] last = refl
joined_first field row (_ ∷ _) last = refl

joined_front : (row : Row) (columns : List Column) (last : Column) → joined (map row (columns ++ last ∷ [])) ≡ flat_map (comma_behind row) columns ++ quoted (row last)
unfolding joined
joined_front row [] last = refl
joined_front row (column ∷ others) last =
    let rest : List ℕ = flat_map (comma_behind row) others ++ quoted (row last) in
    joined_first (row column) row others last
    ∙ (ap (λ (l : List ℕ). quoted (row column) ++ 44 ∷ l) (joined_front row others last)
    ∙ (sym (append_assoc (quoted (row column)) (44 ∷ []) rest)
    ∙ sym (append_assoc (comma_behind row column) (flat_map (comma_behind row) others) (quoted (row last)))))

-- all fields but the last, each with its comma, and then the last one with a line feed
line_of : (row : Row) (columns : List Column) (last : Column) → flat_map (comma_behind row) columns ++ (quoted (row last) ++ 10 ∷ []) ≡ line (map row (columns ++ last ∷ []))
unfolding line
line_of row others last =
    sym (append_assoc (flat_map (comma_behind row) others) (quoted (row last)) (10 ∷ []))
    ∙ ap (λ (l : List ℕ). l ++ 10 ∷ []) (sym (joined_front row others last))

-- the columns before the last
abbrev first_columns : List Column
first_columns = take (place_of FormatVersion) columns

-- all columns of a row are its line
pub all_pieces : (row : Row) → flat_map (piece row) columns ≡ row_text row
all_pieces row =
    flat_map-append (piece row) first_columns (FormatVersion ∷ [])
    ∙ (ap (λ (l : List ℕ). flat_map (piece row) first_columns ++ l) (append-nil (piece row FormatVersion))
    ∙ line_of row first_columns FormatVersion)

-- a byte that is no double quote is written once
one_plain : (b : ℕ) (t : Bool) → (b == 34) ≡ t → ((b == 34) ≡ true → ⊥) → doubled b ≡ b ∷ []
one_plain b true is not = absurd (not is)
one_plain b false is not = rw is refl

-- a field without double quotes is written as it is
pub plain_field : (field : List ℕ) → Nowhere (Passes (is_byte 34) field) 0 (length field) → flat_map doubled field ≡ field
plain_field [] none = refl
plain_field (b ∷ rest) none =
    rw (one_plain b (b == 34) refl (λ is. none 0 (omega arith) (omega arith) is))
    (ap (λ (l : List ℕ). b ∷ l) (plain_field rest (λ k low high is. none (suc k) (omega arith) (omega (arith, high)) is)))
