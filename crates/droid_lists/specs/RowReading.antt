-- For inner clauses and proofs: how the first row of a text is read, byte by byte.
use Rattle.std.specs.Prelude.{◌≡◌, ℕ, zero, suc, ◌+◌, ◌==◌, Bool, true, false, List, [], ◌∷◌, ◌++◌, Option, Some, None}
use Rattle.std.specs.Prelude.{Result, Ok, Err, if◌then◌else◌}
use Rattle.std.specs.Borrow.{Bor}
use Rattle.droid_export.specs.Table.{field_or}

-- the field of a column, counted from 0, or nothing past the last
abbrev pub at : List (List ℕ) → ℕ → List ℕ
at row column = field_or row column

-- a field that was read, and the text behind the mark that ends it
pub record Field : Type 0 where
  pub value : List ℕ
  pub rest : List ℕ

-- a field with these bytes in front of it
abbrev pub with_front : List ℕ → Option Field → Option Field
with_front front None = None
with_front front (Some field) = Some (record { value = front ++ field.value; rest = field.rest })

-- The field whose bytes stand in front of a text, up to a quote and this mark. A quote in it is written twice: the flag
-- says that the byte before was a quote, and not the second of two.
abbrev pub field_by : ℕ → Bool → List ℕ → Option Field
field_by mark quote [] = None
field_by mark false (byte ∷ text) =
    if byte == 34 then field_by mark true text else with_front (byte ∷ []) (field_by mark false text)
field_by mark true (byte ∷ text) =
    if byte == 34 then with_front (34 ∷ []) (field_by mark false text)
    else if byte == mark then Some (record { value = []; rest = text })
    else None

-- the field between quotes in front of a text
abbrev pub first_field : ℕ → List ℕ → Option Field
first_field mark [] = None
first_field mark (byte ∷ text) = if byte == 34 then field_by mark false text else None

-- the mark behind the field of a column: a line feed behind the last
abbrev pub mark_behind : ℕ → ℕ
mark_behind column = if column == 17 then 10 else 44

-- a row that was read, and the text behind it
pub record Line : Type 0 where
  pub fields : List (List ℕ)
  pub rest : List ℕ

-- a row with these fields in front of it
abbrev pub with_fields : List (List ℕ) → Result Line ℕ → Result Line ℕ
with_fields front (Err column) = Err column
with_fields front (Ok line) = Ok (record { fields = front ++ line.fields; rest = line.rest })

-- what follows behind a field, or that this column is wrong
abbrev pub behind_field : ℕ → Option Field → (List ℕ → Result Line ℕ) → Result Line ℕ
behind_field column None more = Err column
behind_field column (Some field) more = with_fields (field.value ∷ []) (more field.rest)

-- the fields of so many columns from this one on, or the first column whose field is not spelled so
unfoldable pub fields_from : ℕ → ℕ → List ℕ → Result Line ℕ
fields_from zero column text = Ok (record { fields = []; rest = text })
fields_from (suc count) column text =
    behind_field column (first_field (mark_behind column) text) (λ rest. fields_from count (column + 1) rest)

-- the first row of a text, or the first column that breaks it
abbrev pub first_row : List ℕ → Result Line ℕ
first_row text = fields_from 18 0 text

-- what a call gave of a field
abbrev pub FieldComes : Option Field → List (List ℕ) → List (List ℕ) → Option (Bor (List ℕ)) → Type 0
FieldComes None old new None = Unit {0}
FieldComes None old new (Some rest) = ⊥
FieldComes (Some field) old new None = ⊥
FieldComes (Some field) old new (Some rest) = (rest.now ≡ field.rest) × (new ≡ old ++ field.value ∷ [])

-- what a call gave of a row
abbrev pub RowComes : Result Line ℕ → List (List ℕ) → Result (Bor (List ℕ)) ℕ → Type 0
RowComes (Err column) new (Err found) = found ≡ column
RowComes (Err column) new (Ok rest) = ⊥
RowComes (Ok line) new (Err found) = ⊥
RowComes (Ok line) new (Ok rest) = (rest.now ≡ line.rest) × (new ≡ line.fields)
