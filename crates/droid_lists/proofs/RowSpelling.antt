-- A row is read exactly where it is spelled, and else its first broken column is found.
use Rattle.std.proofs.Common.{◌≡◌, ◌∙◌, ◌<◌, ◌+◌, ◌⊎◌, inl, inr, ℕ, suc, zero, ◌==◌, Bool, true, false, List, [], ◌∷◌, ◌++◌, append_assoc, length, Option, Some, None, Result, Ok, Err, refl, sym, ap, subst, arith, if◌then◌else◌}
use Rattle.std.proofs.lemmas.Bool.{ne_eqb}
use Rattle.droid_export.specs.Csv.{joined, line, quoted}
use Rattle.droid_lists.specs.RowReading.{Field, Line, behind_field, fields_from, first_field, first_row, mark_behind, with_fields}
use Rattle.droid_lists.specs.Spelling.{Breaks, Spells, front_line}
use Rattle.droid_lists.proofs.FieldSpelling.{is_quoted, quoted_read}

mark_apart_by : (b : Bool) → ((if b then 10 else 44) == 34) ≡ false
mark_apart_by true = refl
mark_apart_by false = refl

-- no mark behind a field is a quote
pub mark_apart : (column : ℕ) → (mark_behind column == 34) ≡ false
mark_apart column = mark_apart_by (column == 17)

pub mark_comma : (column : ℕ) → column < 17 → mark_behind column ≡ 44
mark_comma column below = rw (ne_eqb column 17 (omega (arith, below))) refl

-- ---- one field of a row

-- a row was read behind these fields
record IsBehind (front : List (List ℕ)) (read : Result Line ℕ) (whole : Line) : Type 0 where
  pub next : Line
  pub is_read : read ≡ Ok next
  pub fields : whole.fields ≡ front ++ next.fields
  pub rest : whole.rest ≡ next.rest

parts_of : (front : List (List ℕ)) (read : Result Line ℕ) (whole : Line) → with_fields front read ≡ Ok whole → IsBehind front read whole
parts_of front (Err column) whole is = absurd (cc)
parts_of front (Ok next) whole is =
    let same : record { fields = front ++ next.fields; rest = next.rest } ≡ whole = cc in
    record { next = next; is_read = refl; fields = ap (λ (it : Line). it.fields) (sym same); rest = ap (λ (it : Line). it.rest) (sym same) }

-- a field was read, and a row behind it
record IsAfter (read : Option Field) (more : List ℕ → Result Line ℕ) (whole : Line) : Type 0 where
  pub field : Field
  pub is_field : read ≡ Some field
  pub parts : IsBehind (field.value ∷ []) (more field.rest) whole

after_of : (column : ℕ) (read : Option Field) (more : List ℕ → Result Line ℕ) (whole : Line) → behind_field column read more ≡ Ok whole → IsAfter read more whole
after_of column None more whole is = absurd (cc)
after_of column (Some field) more whole is = record { field = field; is_field = refl; parts = parts_of (field.value ∷ []) (more field.rest) whole is }

-- a field was read, and what is behind it breaks
record BreaksAfter (read : Option Field) (more : List ℕ → Result Line ℕ) (column : ℕ) : Type 0 where
  pub field : Field
  pub is_field : read ≡ Some field
  pub broken : more field.rest ≡ Err column

err_of : (front : List (List ℕ)) (read : Result Line ℕ) (column : ℕ) → with_fields front read ≡ Err column → read ≡ Err column
err_of front (Err other) column is = is
err_of front (Ok next) column is = absurd (cc)

broken_of : (here : ℕ) (read : Option Field) (more : List ℕ → Result Line ℕ) (column : ℕ) → behind_field here read more ≡ Err column
    → ((read ≡ None) × (here ≡ column)) ⊎ BreaksAfter read more column
broken_of here None more column is = inl (refl, (let same : here ≡ column = cc in same))
broken_of here (Some field) more column is = inr (record { field = field; is_field = refl; broken = err_of (field.value ∷ []) (more field.rest) column is })

-- ---- what is read is spelled

joined_more : (value : List ℕ) (fields : List (List ℕ)) → 0 < length fields → joined (value ∷ fields) ≡ quoted value ++ 44 ∷ joined fields
unfolding joined
joined_more value [] some = absurd (omega (arith, some))
joined_more value (next ∷ fields) some = refl

-- the last field
last_line : (text value rest behind : List ℕ) (fields : List (List ℕ)) → fields ≡ value ∷ [] → behind ≡ rest → text ≡ quoted value ++ 10 ∷ rest → text ≡ line fields ++ behind
unfolding line joined
last_line text value rest behind fields are same is = rw (are, same) (is ∙ sym (append_assoc (quoted value) (10 ∷ []) rest))

-- a field and the fields behind it
more_line : (text value rest behind last : List ℕ) (fields more : List (List ℕ)) → 0 < length more → fields ≡ value ∷ more → last ≡ behind → text ≡ quoted value ++ 44 ∷ rest
    → rest ≡ line more ++ behind → text ≡ line fields ++ last
unfolding line
more_line text value rest behind last fields more some are same is next =
    rw (are, same, joined_more value more some) (is ∙ (ap (λ (t : List ℕ). quoted value ++ 44 ∷ t) next ∙ sym (
    append_assoc (quoted value ++ 44 ∷ joined more) (10 ∷ []) behind
    ∙ (append_assoc (quoted value) (44 ∷ joined more) (10 ∷ behind)
    ∙ ap (λ (t : List ℕ). quoted value ++ 44 ∷ t) (sym (append_assoc (joined more) (10 ∷ []) behind))))))

none_left : (column : ℕ) (text : List ℕ) (next : Line) → fields_from zero column text ≡ Ok next → (next.fields ≡ []) × (next.rest ≡ text)
unfolding fields_from
none_left column text next is =
    let same : record { fields = []; rest = text } ≡ next = cc in
    (ap (λ (it : Line). it.fields) (sym same), ap (λ (it : Line). it.rest) (sym same))

line_of : (count column : ℕ) (text : List ℕ) (whole : Line) → suc count + column ≡ 18 → fields_from (suc count) column text ≡ Ok whole
    → (text ≡ line whole.fields ++ whole.rest) × (length whole.fields ≡ suc count)
unfolding fields_from
line_of zero column text whole sum is =
    let after = after_of column (first_field (mark_behind column) text) (λ rest. fields_from zero (column + 1) rest) whole is in
    let value = after.field.value in
    let none = none_left (column + 1) after.field.rest after.parts.next after.parts.is_read in
    let at : column ≡ 17 = omega (arith, sum) in
    let mark : mark_behind column ≡ 10 = rw at refl in
    let fields : whole.fields ≡ value ∷ [] = after.parts.fields ∙ ap (λ (more : List (List ℕ)). value ∷ more) none.0 in
    let spelled : text ≡ quoted value ++ 10 ∷ after.field.rest =
    is_quoted (mark_behind column) text after.field after.is_field ∙ ap (λ (m : ℕ). quoted value ++ m ∷ after.field.rest) mark in
    (last_line text value after.field.rest whole.rest whole.fields fields (after.parts.rest ∙ none.1) spelled, ap length fields)
line_of (suc count) column text whole sum is =
    let after = after_of column (first_field (mark_behind column) text) (λ rest. fields_from (suc count) (column + 1) rest) whole is in
    let value = after.field.value in
    let next = line_of count (column + 1) after.field.rest after.parts.next (omega (arith, sum)) after.parts.is_read in
    let mark : mark_behind column ≡ 44 = mark_comma column (omega (arith, sum)) in
    let spelled : text ≡ quoted value ++ 44 ∷ after.field.rest =
    is_quoted (mark_behind column) text after.field after.is_field ∙ ap (λ (m : ℕ). quoted value ++ m ∷ after.field.rest) mark in
    let some : 0 < length after.parts.next.fields = omega (arith, next.1) in (
      more_line text value after.field.rest after.parts.next.rest whole.rest whole.fields after.parts.next.fields some after.parts.fields after.parts.rest spelled next.0,
      ap length after.parts.fields ∙ ap (λ (n : ℕ). suc n) next.1,
    )

-- what is read as a row is spelled as one
pub is_spelled : (text : List ℕ) (whole : Line) → first_row text ≡ Ok whole → Spells text whole.fields whole.rest
is_spelled text whole is =
    let both = line_of 17 0 text whole refl is in
    record { count = both.1; whole = both.0 }

-- ---- where a row breaks

-- so many fields are read before the broken one
record IsBroken (start : ℕ) (text : List ℕ) (column : ℕ) : Type 0 where
  pub fields : List (List ℕ)
  pub rest : List ℕ
  pub count : start + length fields ≡ column
  pub front : text ≡ front_line fields ++ rest
  pub none : first_field (mark_behind column) rest ≡ None

here_broken : (start : ℕ) (text : List ℕ) (column : ℕ) → first_field (mark_behind start) text ≡ None → start ≡ column → IsBroken start text column
here_broken start text column none at =
    record { fields = []; rest = text; count = omega (arith, at); front = refl; none = subst (λ (c : ℕ). first_field (mark_behind c) text ≡ None) at none }

later_broken : (start : ℕ) (text value rest : List ℕ) (column : ℕ) → text ≡ quoted value ++ 44 ∷ rest → IsBroken (start + 1) rest column → IsBroken start text column
later_broken start text value rest column is more = record {
  fields = value ∷ more.fields;
  rest = more.rest;
  count = omega (arith, more.count);
  front = is ∙ (ap (λ (t : List ℕ). quoted value ++ 44 ∷ t) more.front ∙ sym (append_assoc (quoted value ++ 44 ∷ []) (front_line more.fields) more.rest ∙ append_assoc (quoted value) (44 ∷ []) (front_line more.fields ++ more.rest)));
  none = more.none;
}

broken_by : (count start : ℕ) (text : List ℕ) (column : ℕ) → suc count + start ≡ 18
    → ((first_field (mark_behind start) text ≡ None) × (start ≡ column)) ⊎ BreaksAfter (first_field (mark_behind start) text) (λ rest. fields_from count (start + 1) rest) column
    → ((rest : List ℕ) → fields_from count (start + 1) rest ≡ Err column → IsBroken (start + 1) rest column × (column < 18))
    → IsBroken start text column × (column < 18)
broken_by count start text column sum (inl here) more = (here_broken start text column here.0 here.1, omega (arith, here.1, sum))
broken_by count start text column sum (inr after) more =
    let next = more after.field.rest after.broken in
    let count_is = next.0.count in
    let mark : mark_behind start ≡ 44 = mark_comma start (omega (arith, count_is, next.1)) in
    let spelled : text ≡ quoted after.field.value ++ 44 ∷ after.field.rest =
    is_quoted (mark_behind start) text after.field after.is_field ∙ ap (λ (m : ℕ). quoted after.field.value ++ m ∷ after.field.rest) mark in
    (later_broken start text after.field.value after.field.rest column spelled next.0, next.1)

no_error : (start : ℕ) (text : List ℕ) (column : ℕ) → fields_from zero start text ≡ Err column → IsBroken start text column × (column < 18)
unfolding fields_from
no_error start text column is = absurd (cc)

broken_from : (count start : ℕ) (text : List ℕ) (column : ℕ) → count + start ≡ 18 → fields_from count start text ≡ Err column → IsBroken start text column × (column < 18)
unfolding fields_from
broken_from zero start text column sum is = no_error start text column is
broken_from (suc count) start text column sum is =
    broken_by count start text column sum (broken_of start (first_field (mark_behind start) text) (λ rest. fields_from count (start + 1) rest) column is)
    (λ rest e. broken_from count (start + 1) rest column (omega (arith, sum)) e)

not_read : (mark : ℕ) (text field behind : List ℕ) → first_field mark text ≡ None → text ≡ quoted field ++ mark ∷ behind → (mark == 34) ≡ false → ⊥
not_read mark text field behind none spelled apart =
    let read : first_field mark text ≡ Some (record { value = field; rest = behind }) = ap (λ (t : List ℕ). first_field mark t) spelled ∙ quoted_read mark field behind apart in
    absurd (cc)

-- where no row is read, a column breaks it
pub is_broken : (text : List ℕ) (column : ℕ) → first_row text ≡ Err column → Breaks text column
is_broken text column is =
    let both = broken_from 18 0 text column refl is in
    record {
      fields = both.0.fields;
      rest = both.0.rest;
      count = omega (arith, both.0.count);
      within = both.1;
      front = both.0.front;
      broken = λ field behind spelled. not_read (mark_behind column) both.0.rest field behind both.0.none spelled (mark_apart column);
    }
