-- A field is read exactly where it is spelled.
use Rattle.std.proofs.Common.{◌≡◌, ◌∙◌, ℕ, ◌==◌, Bool, true, false, List, [], ◌∷◌, ◌++◌, append_assoc, Option, Some, None, refl, sym, ap, if◌then◌else◌}
use Rattle.std.specs.List.{flat_map}
use Rattle.std.proofs.lemmas.Bool.{eqb-true}
use Rattle.droid_export.specs.Csv.{doubled, quoted}
use Rattle.droid_lists.specs.RowReading.{Field, field_by, first_field, with_front}
use Rattle.droid_lists.proofs.PlainFields.{closed}

-- ---- what is read is spelled

-- the text of a field behind its first quote
abbrev spelled : ℕ → Field → List ℕ
spelled mark field = flat_map doubled field.value ++ 34 ∷ mark ∷ field.rest

-- a text that comes behind a byte that was a quote
abbrev behind : Bool → List ℕ → List ℕ
behind true text = 34 ∷ text
behind false text = text

-- a field that was read behind these bytes
record IsBehind (front : List ℕ) (read : Option Field) (field : Field) : Type 0 where
  pub more : Field
  pub is_read : read ≡ Some more
  pub value : field.value ≡ front ++ more.value
  pub rest : field.rest ≡ more.rest

parts_of : (front : List ℕ) (read : Option Field) (field : Field) → with_front front read ≡ Some field → IsBehind front read field
parts_of front None field is = absurd (cc)
parts_of front (Some more) field is =
    let same : record { value = front ++ more.value; rest = more.rest } ≡ field = cc in
    record { more = more; is_read = refl; value = ap (λ (f : Field). f.value) (sym same); rest = ap (λ (f : Field). f.rest) (sym same) }

-- a byte in front of what is spelled
one_more : (mark byte : ℕ) (field more : Field) → doubled byte ≡ byte ∷ [] → field.value ≡ (byte ∷ []) ++ more.value → field.rest ≡ more.rest → byte ∷ spelled mark more ≡ spelled mark field
one_more mark byte field more plain value rest = rw (value, rest, plain) refl

-- a quote, which is written twice
one_quote : (mark : ℕ) (field more : Field) → field.value ≡ (34 ∷ []) ++ more.value → field.rest ≡ more.rest → 34 ∷ 34 ∷ spelled mark more ≡ spelled mark field
one_quote mark field more value rest = rw (value, rest) refl

inside : (mark byte : ℕ) (text : List ℕ) (field : Field) (b : Bool) → (byte == 34) ≡ b
    → (if b then field_by mark true text else with_front (byte ∷ []) (field_by mark false text)) ≡ Some field
    → ((more : Field) → field_by mark true text ≡ Some more → 34 ∷ text ≡ spelled mark more)
    → ((more : Field) → field_by mark false text ≡ Some more → text ≡ spelled mark more)
    → byte ∷ text ≡ spelled mark field
inside mark byte text field true test is after plain = rw (eqb-true byte 34 test) (after field is)
inside mark byte text field false test is after plain =
    let parts = parts_of (byte ∷ []) (field_by mark false text) field is in
    ap (λ (t : List ℕ). byte ∷ t) (plain parts.more parts.is_read) ∙ one_more mark byte field parts.more (rw test refl) parts.value parts.rest

-- the mark ends the field
ends : (mark byte : ℕ) (text : List ℕ) (field : Field) (b : Bool) → (byte == mark) ≡ b
    → (if b then Some (record { value = []; rest = text }) else None) ≡ Some field → 34 ∷ byte ∷ text ≡ spelled mark field
ends mark byte text field true test is =
    let same : record { value = []; rest = text } ≡ field = cc in
    rw (eqb-true byte mark test) (ap (λ (f : Field). spelled mark f) same)
ends mark byte text field false test is = absurd (cc)

after_quote : (mark byte : ℕ) (text : List ℕ) (field : Field) (b : Bool) → (byte == 34) ≡ b
    → (if b then with_front (34 ∷ []) (field_by mark false text) else (if byte == mark then Some (record { value = []; rest = text }) else None)) ≡ Some field
    → ((more : Field) → field_by mark false text ≡ Some more → text ≡ spelled mark more)
    → 34 ∷ byte ∷ text ≡ spelled mark field
after_quote mark byte text field true test is plain =
    let parts = parts_of (34 ∷ []) (field_by mark false text) field is in
    rw (eqb-true byte 34 test) (ap (λ (t : List ℕ). 34 ∷ 34 ∷ t) (plain parts.more parts.is_read) ∙ one_quote mark field parts.more parts.value parts.rest)
after_quote mark byte text field false test is plain = ends mark byte text field (byte == mark) refl is

read : (mark : ℕ) (quote : Bool) (text : List ℕ) (field : Field) → field_by mark quote text ≡ Some field → behind quote text ≡ spelled mark field
read mark true [] field is = absurd (cc)
read mark false [] field is = absurd (cc)
read mark false (byte ∷ text) field is = inside mark byte text field (byte == 34) refl is (λ more e. read mark true text more e) (λ more e. read mark false text more e)
read mark true (byte ∷ text) field is = after_quote mark byte text field (byte == 34) refl is (λ more e. read mark false text more e)

quoted_by : (mark byte : ℕ) (text : List ℕ) (field : Field) (b : Bool) → (byte == 34) ≡ b → (if b then field_by mark false text else None) ≡ Some field
    → byte ∷ text ≡ quoted field.value ++ mark ∷ field.rest
unfolding quoted
quoted_by mark byte text field false test is = absurd (cc)
quoted_by mark byte text field true test is =
    rw (eqb-true byte 34 test) (ap (λ (t : List ℕ). 34 ∷ t) (read mark false text field is ∙ sym (append_assoc (flat_map doubled field.value) (34 ∷ []) (mark ∷ field.rest))))

-- what is read as a field stands between quotes, in its one spelling
pub is_quoted : (mark : ℕ) (text : List ℕ) (field : Field) → first_field mark text ≡ Some field → text ≡ quoted field.value ++ mark ∷ field.rest
is_quoted mark [] field is = absurd (cc)
is_quoted mark (byte ∷ text) field is = quoted_by mark byte text field (byte == 34) refl is

-- ---- what is spelled is read

-- a byte of a field
byte_read : (mark byte : ℕ) (value rest : List ℕ) (b : Bool) → (byte == 34) ≡ b
    → field_by mark false (flat_map doubled value ++ 34 ∷ mark ∷ rest) ≡ Some (record { value = value; rest = rest })
    → field_by mark false (flat_map doubled (byte ∷ value) ++ 34 ∷ mark ∷ rest) ≡ Some (record { value = byte ∷ value; rest = rest })
byte_read mark byte value rest true test is = rw (eqb-true byte 34 test) (ap (λ (it : Option Field). with_front (34 ∷ []) it) is)
byte_read mark byte value rest false test is = rw (test, test) (ap (λ (it : Option Field). with_front (byte ∷ []) it) is)

value_read : (mark : ℕ) (value rest : List ℕ) → (mark == 34) ≡ false
    → field_by mark false (flat_map doubled value ++ 34 ∷ mark ∷ rest) ≡ Some (record { value = value; rest = rest })
value_read mark [] rest apart = closed mark rest apart
value_read mark (byte ∷ value) rest apart = byte_read mark byte value rest (byte == 34) refl (value_read mark value rest apart)

-- a field in its one spelling is read
pub quoted_read : (mark : ℕ) (value rest : List ℕ) → (mark == 34) ≡ false → first_field mark (quoted value ++ mark ∷ rest) ≡ Some (record { value = value; rest = rest })
unfolding quoted
quoted_read mark value rest apart =
    ap (λ (t : List ℕ). field_by mark false t) (append_assoc (flat_map doubled value) (34 ∷ []) (mark ∷ rest)) ∙ value_read mark value rest apart
