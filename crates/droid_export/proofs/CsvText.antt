-- What `csv` writes with every field between double quotes is a record as it is defined here.
use Rattle.std.proofs.Common.{◌≡◌, ◌==◌, ℕ, Bool, true, false, List, [], ◌∷◌, ◌++◌, refl, ap, ◌∙◌}
use Rattle.std.specs.List.{flat_map}
use Rattle.std.proofs.lemmas.List.{append-nil}
use Rattle.std.proofs.lemmas.Bool.{eqb-true}
use Rattle.csv.specs.Writing as csv
use Rattle.droid_export.specs.Csv.{doubled, quoted, joined, line}
use Rattle.droid_export.specs.CsvBuffer.{always}

-- one byte, by whether it is a double quote
one_escaped : (b : ℕ) (t : Bool) (rest : List ℕ) → (b == 34) ≡ t → csv.escaped always (b ∷ rest) ≡ doubled b ++ csv.escaped always rest
unfolding csv.escaped
one_escaped b true rest is =
    let quote : b ≡ 34 = eqb-true b 34 is in
    rw quote refl
one_escaped b false rest is = rw is refl

escaped_same : (field : List ℕ) → csv.escaped always field ≡ flat_map doubled field
unfolding csv.escaped
escaped_same [] = refl
escaped_same (b ∷ rest) = one_escaped b (b == 34) rest refl ∙ ap (λ (t : List ℕ). doubled b ++ t) (escaped_same rest)

quoted_same : (field : List ℕ) → csv.quoted always field ≡ quoted field
unfolding quoted
quoted_same field = ap (λ (t : List ℕ). 34 ∷ (t ++ 34 ∷ [])) (escaped_same field)

joined_same : (field : List ℕ) (fields : List (List ℕ)) → csv.quoted always field ++ csv.fields_text always fields ≡ joined (field ∷ fields)
unfolding csv.fields_text joined
joined_same field [] = append-nil (csv.quoted always field) ∙ quoted_same field
joined_same field (next ∷ fields) =
    ap (λ (t : List ℕ). csv.quoted always field ++ 44 ∷ t) (joined_same next fields) ∙ ap (λ (t : List ℕ). t ++ 44 ∷ joined (next ∷ fields)) (quoted_same field)

-- a record of two fields or more
pub line_same : (field next : List ℕ) (fields : List (List ℕ)) → csv.row_text always (field ∷ next ∷ fields) ≡ line (field ∷ next ∷ fields)
unfolding line csv.is_blank
line_same field next fields = ap (λ (t : List ℕ). t ++ 10 ∷ []) (joined_same field (next ∷ fields))
