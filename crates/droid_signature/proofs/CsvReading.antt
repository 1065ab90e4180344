-- A row is read back by `csv` with its default settings.
use Rattle.std.proofs.Common.{◌≡◌, ◌==◌, ℕ, Bool, true, false, List, [], ◌∷◌, ◌++◌, Some, refl, ap, ◌∙◌, append_assoc}
use Rattle.std.specs.List.{flat_map}
use Rattle.std.proofs.lemmas.Bool.{eqb-true}
use Rattle.csv.specs.Machine.{next_record}
use Rattle.csv.specs.Reading.{default_config}
use Rattle.csv.specs.Writing as csv
use Rattle.csv.specs.declared.parser.State.TheVariants as st
use Rattle.csv.proofs.RoundTrip.{quoted-run}
use Rattle.droid_signature.specs.Csv.{doubled, quoted, joined, line}

one_doubled : (b : ℕ) (t : Bool) (rest : List ℕ) → (b == 34) ≡ t → csv.escaped csv.default_writer (b ∷ rest) ≡ doubled b ++ csv.escaped csv.default_writer rest
unfolding csv.escaped
one_doubled b true rest is =
    let quote : b ≡ 34 = eqb-true b 34 is in
    rw quote refl
one_doubled b false rest is = rw is refl

escaped_doubled : (field : List ℕ) → csv.escaped csv.default_writer field ≡ flat_map doubled field
unfolding csv.escaped
escaped_doubled [] = refl
escaped_doubled (b ∷ rest) = one_doubled b (b == 34) rest refl ∙ ap (λ (t : List ℕ). doubled b ++ t) (escaped_doubled rest)

-- a field between double quotes, up to the byte after it
read_quoted : (before : List (List ℕ)) (field : List ℕ) (tail : List ℕ)
    → next_record default_config st.StartField before [] (quoted field ++ tail) ≡ next_record default_config st.AfterQuote before field tail
unfolding next_record quoted
read_quoted before field tail =
    rw (append_assoc (flat_map doubled field) (34 ∷ []) tail, ← escaped_doubled field) (quoted-run before [] field tail)

-- a comma after it ends the field, a line feed the record
read_comma : (before : List (List ℕ)) (field tail : List ℕ)
    → next_record default_config st.AfterQuote before field (44 ∷ tail) ≡ next_record default_config st.StartField (before ++ field ∷ []) [] tail
unfolding next_record
read_comma before field tail = refl

read_end : (before : List (List ℕ)) (field tail : List ℕ)
    → next_record default_config st.AfterQuote before field (10 ∷ tail) ≡ Some (before ++ field ∷ [], st.StartRecord, tail)
unfolding next_record
read_end before field tail = refl

-- fields with commas between them, and a line feed
read_joined : (before : List (List ℕ)) (field : List ℕ) (more : List (List ℕ)) (tail : List ℕ)
    → next_record default_config st.StartField before [] (joined (field ∷ more) ++ 10 ∷ tail) ≡ Some (before ++ field ∷ more, st.StartRecord, tail)
unfolding joined
read_joined before field [] tail = read_quoted before field (10 ∷ tail) ∙ read_end before field tail
read_joined before field (next ∷ more) tail =
    ap (λ (t : List ℕ). next_record default_config st.StartField before [] t) (append_assoc (quoted field) (44 ∷ joined (next ∷ more)) (10 ∷ tail))
    ∙ read_quoted before field (44 ∷ (joined (next ∷ more) ++ 10 ∷ tail))
    ∙ read_comma before field (joined (next ∷ more) ++ 10 ∷ tail)
    ∙ read_joined (before ++ field ∷ []) next more tail
    ∙ ap (λ (all : List (List ℕ)). Some (all, st.StartRecord, tail)) (append_assoc before (field ∷ []) (next ∷ more))

-- a record begins as a field does
begins : (field : List ℕ) (tail : List ℕ) → next_record default_config st.StartRecord [] [] (quoted field ++ tail) ≡ next_record default_config st.StartField [] [] (quoted field ++ tail)
unfolding next_record quoted
begins field tail = refl

read_first : (field : List ℕ) (more : List (List ℕ)) (tail : List ℕ)
    → next_record default_config st.StartRecord [] [] (joined (field ∷ more) ++ tail) ≡ next_record default_config st.StartField [] [] (joined (field ∷ more) ++ tail)
unfolding joined
read_first field [] tail = begins field tail
read_first field (next ∷ more) tail = rw (append_assoc (quoted field) (44 ∷ joined (next ∷ more)) tail) (begins field _)

pub read_line : (field : List ℕ) (more : List (List ℕ)) (tail : List ℕ)
    → next_record default_config st.StartRecord [] [] (line (field ∷ more) ++ tail) ≡ Some (field ∷ more, st.StartRecord, tail)
unfolding line
read_line field more tail =
    rw (append_assoc (joined (field ∷ more)) (10 ∷ []) tail) (read_first field more (10 ∷ tail) ∙ read_joined [] field more tail)
