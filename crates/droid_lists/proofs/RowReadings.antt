-- A row is read field by field.
use Rattle.std.proofs.Common.{Bor, ◌≡◌, ◌∙◌, ◌<◌, ◌≤◌, ◌+◌, ◌-◌, ℕ, suc, List, [], ◌∷◌, ◌++◌, append_assoc, append-nil, Option, Some, None, Result, Ok, Err, refl, sym, ap, arith}
use Rattle.droid_lists.specs.RowReading.{Field, FieldComes, Line, RowComes, behind_field, fields_from, first_field, first_row, mark_behind, with_fields}

-- what was read, in front
front_none : (row : Result Line ℕ) → row ≡ with_fields [] row
front_none (Err column) = refl
front_none (Ok line) = refl

front_more : (front more : List (List ℕ)) (row : Result Line ℕ) → with_fields front (with_fields more row) ≡ with_fields (front ++ more) row
front_more front more (Err column) = refl
front_more front more (Ok line) = ap (λ (fields : List (List ℕ)). Ok (record { fields = fields; rest = line.rest })) (sym (append_assoc front more line.fields))

-- before the first field
pub row_starts : (text : List ℕ) (fields : List (List ℕ)) → fields ≡ [] → first_row text ≡ with_fields fields (fields_from (18 - 0) 0 text)
row_starts text fields none = rw none (front_none (first_row text))

step_of : (count left column : ℕ) (rest : List ℕ) → left ≡ suc count
    → fields_from left column rest ≡ behind_field column (first_field (mark_behind column) rest) (λ behind. fields_from count (column + 1) behind)
unfolding fields_from
step_of count left column rest is = rw is refl

-- the field of the next column
next_field : (column : ℕ) (rest : List ℕ) → column < 18
    → fields_from (18 - column) column rest ≡ behind_field column (first_field (mark_behind column) rest) (λ behind. fields_from (18 - (column + 1)) (column + 1) behind)
next_field column rest below = step_of (18 - (column + 1)) (18 - column) column rest (omega (arith, below))

-- one more field was read
read_by : (column : ℕ) (text behind : List ℕ) (old new : List (List ℕ)) (field : Option Field) (more : List ℕ → Result Line ℕ) (came : Bor (List ℕ))
    → FieldComes field old new (Some came) → behind ≡ came.now → with_fields old (behind_field column field more) ≡ with_fields new (more behind)
read_by column text behind old new None more came comes same = absurd comes
read_by column text behind old new (Some field) more came comes same =
    front_more old (field.value ∷ []) (more field.rest) ∙ rw (comes.1, same, comes.0) refl

pub one_read : (column : ℕ) (text rest behind : List ℕ) (old new : List (List ℕ)) (came : Bor (List ℕ)) → column < 18
    → first_row text ≡ with_fields old (fields_from (18 - column) column rest)
    → FieldComes (first_field (mark_behind column) rest) old new (Some came) → behind ≡ came.now
    → first_row text ≡ with_fields new (fields_from (18 - (column + 1)) (column + 1) behind)
one_read column text rest behind old new came below is comes same =
    is ∙ (ap (λ (row : Result Line ℕ). with_fields old row) (next_field column rest below)
    ∙ read_by column text behind old new (first_field (mark_behind column) rest) (λ left. fields_from (18 - (column + 1)) (column + 1) left) came comes same)

-- a field breaks the row
broken_by : (column : ℕ) (old new : List (List ℕ)) (field : Option Field) (more : List ℕ → Result Line ℕ) → FieldComes field old new None
    → with_fields old (behind_field column field more) ≡ Err column
broken_by column old new None more comes = refl
broken_by column old new (Some field) more comes = absurd comes

comes_err : (row : Result Line ℕ) (column : ℕ) (fields : List (List ℕ)) → row ≡ Err column → RowComes row fields (Err column)
comes_err row column fields is = rw is refl

pub one_broken : (column : ℕ) (text rest : List ℕ) (old new fields : List (List ℕ)) → column < 18
    → first_row text ≡ with_fields old (fields_from (18 - column) column rest)
    → FieldComes (first_field (mark_behind column) rest) old new None → RowComes (first_row text) fields (Err column)
one_broken column text rest old new fields below is comes =
    comes_err (first_row text) column fields
    (is ∙ (ap (λ (row : Result Line ℕ). with_fields old row) (next_field column rest below)
    ∙ broken_by column old new (first_field (mark_behind column) rest) (λ left. fields_from (18 - (column + 1)) (column + 1) left) comes))

-- all fields were read
no_more : (left column : ℕ) (rest : List ℕ) → left ≡ 0 → fields_from left column rest ≡ Ok (record { fields = []; rest = rest })
unfolding fields_from
no_more left column rest is = rw is refl

comes_ok : (row : Result Line ℕ) (fields : List (List ℕ)) (rest : Bor (List ℕ)) → row ≡ Ok (record { fields = fields; rest = rest.now }) → RowComes row fields (Ok rest)
comes_ok row fields rest is = rw is (refl, refl)

pub all_read : (column : ℕ) (text : List ℕ) (fields : List (List ℕ)) (rest : Bor (List ℕ)) → 18 ≤ column
    → first_row text ≡ with_fields fields (fields_from (18 - column) column rest.now) → RowComes (first_row text) fields (Ok rest)
all_read column text fields rest past is =
    comes_ok (first_row text) fields rest
    (is ∙ (ap (λ (row : Result Line ℕ). with_fields fields row) (no_more (18 - column) column rest.now (omega (arith, past)))
    ∙ ap (λ (all : List (List ℕ)). Ok (record { fields = all; rest = rest.now })) (append-nil fields)))
