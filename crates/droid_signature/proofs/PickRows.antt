-- The rows of a way, by the registry's rows.
use Rattle.std.proofs.Common.{◌≡◌, ◌∙◌, ℕ, zero, suc, ◌*◌, ◌/◌, ◌%◌, ◌<◌, ◌≤◌, List, [], ◌∷◌, ◌++◌, length, map, take, drop, refl, sym, ap, arith}
use Rattle.std.specs.Prelude.{codes, slice_index_or}
use Rattle.std.specs.List.{flat_map, AllByRecursion}
use Rattle.std.proofs.lemmas.List.{append-nil, length-map, map-append}
use Rattle.std.proofs.lemmas.List.Concat.{flat_map-append}
use Rattle.droid_signature.specs.Csv.{line}
use Rattle.droid_pronom.specs.declared.rows.Offsets.{Offsets}
use Rattle.droid_signature_pattern.specs.Choices.{ways}
use Rattle.droid_signature_pattern.specs.declared.choices.Choices.{Choices}
use Rattle.droid_signature.specs.RegistryTables.{SequenceRow, SignatureRow, sequence_fields, signature_fields, signature_lines}
use Rattle.droid_signature.specs.Combinations.{Pick, further_fields, lines_below, pick, pick_rows, picks}
use Rattle.droid_signature.specs.SignatureRows.{AreAllWritten, AreWritten, combination, rows_below, ways_of}
use Rattle.droid_signature.proofs.Counting.{quotient_below, remainder_below}

abbrev pub pick_of : SequenceRow → Pick
pick_of row = record { offsets = row.offsets; text = row.text }

pub written_length : (choices : Choices) (rows : List SequenceRow) → AreWritten choices rows → length rows ≡ length choices.texts
written_length choices rows are = sym (length-map rows (λ (row : SequenceRow). row.text)) ∙ ap length are.texts

pub written_ways : (all : List Choices) (lists : List (List SequenceRow)) → AreAllWritten all lists → ways_of lists ≡ ways all
written_ways [] [] are = refl
written_ways [] (rows ∷ lists) are = absurd are
written_ways (choices ∷ all) [] are = absurd are
written_ways (choices ∷ all) (rows ∷ lists) (here, more) = ap (λ n. n * ways_of lists) (written_length choices rows here) ∙ ap (λ n. length choices.texts * n) (written_ways all lists more)

pub written_count : (all : List Choices) (lists : List (List SequenceRow)) → AreAllWritten all lists → length lists ≡ length all
written_count [] [] are = refl
written_count [] (rows ∷ lists) are = absurd are
written_count (choices ∷ all) [] are = absurd are
written_count (choices ∷ all) (rows ∷ lists) (here, more) = ap suc (written_count all lists more)

-- the row at a place
one_at : (offsets : Offsets) (rows : List SequenceRow) (i : ℕ) → i < length rows → AllByRecursion (λ row. row.offsets ≡ offsets) rows
    → map pick_of (take 1 (drop i rows)) ≡ record { offsets = offsets; text = slice_index_or (map (λ row. row.text) rows) i [] } ∷ []
one_at offsets [] i below all = absurd (omega arith)
one_at offsets (row ∷ rows) zero below (here, more) = ap (λ (o : Offsets). record { offsets = o; text = row.text } ∷ []) here
one_at offsets (row ∷ rows) (suc i) below (here, more) = one_at offsets rows i (omega arith) more

pub picks_are : (all : List Choices) (lists : List (List SequenceRow)) (number : ℕ) → AreAllWritten all lists → number < ways all → map pick_of (combination lists number) ≡ picks all number
picks_are [] [] number are below = refl
picks_are [] (rows ∷ lists) number are below = absurd are
picks_are (choices ∷ all) [] number are below = absurd are
picks_are (choices ∷ all) (rows ∷ lists) number (here, more) below =
    let same = written_ways all lists more in
    let place : number / ways all < length rows = let long = written_length choices rows here in let inside = quotient_below (length choices.texts) (ways all) number below in omega arith in
    map-append pick_of (take 1 (drop (number / ways_of lists) rows)) (combination lists (number % ways_of lists))
    ∙ ap (λ w. map pick_of (take 1 (drop (number / w) rows)) ++ map pick_of (combination lists (number % w))) same
    ∙ ap (λ l. l ++ map pick_of (combination lists (number % ways all))) (one_at choices.offsets rows (number / ways all) place here.offsets)
    ∙ ap (λ (texts : List (List ℕ)). record { offsets = choices.offsets; text = slice_index_or texts (number / ways all) [] } ∷ map pick_of (combination lists (number % ways all))) here.texts
    ∙ ap (λ (l : List Pick). pick choices (number / ways all) ∷ l) (picks_are all lists (number % ways all) more (remainder_below (length choices.texts) (ways all) number below))

further_are : (puid : List ℕ) (rows : List SequenceRow) → further_fields puid (map pick_of rows) ≡ map (sequence_fields (codes "B") puid) rows
further_are puid [] = refl
further_are puid (row ∷ rows) = ap (λ l. sequence_fields (codes "B") puid row ∷ l) (further_are puid rows)

fields_are : (puid : List ℕ) (rows : List SequenceRow) → pick_rows puid (map pick_of rows) ≡ signature_fields puid rows
fields_are puid [] = refl
fields_are puid (row ∷ rows) = ap (λ l. sequence_fields (codes "S") puid row ∷ l) (further_are puid rows)

pub lines_are : (place : ℕ) (puid : List ℕ) (all : List Choices) (lists : List (List SequenceRow)) (count : ℕ) → AreAllWritten all lists → count ≤ ways all
    → lines_below puid all count ≡ signature_lines (rows_below place puid lists count)
lines_are place puid all lists zero are few = refl
lines_are place puid all lists (suc number) are few =
    let row : SignatureRow = record { place = place; puid = puid; sequences = combination lists number } in
    let fields : pick_rows puid (picks all number) ≡ signature_fields puid (combination lists number) = ap (pick_rows puid) (sym (picks_are all lists number are (omega arith))) ∙ fields_are puid (combination lists number) in
    ap (λ t. t ++ flat_map line (pick_rows puid (picks all number))) (lines_are place puid all lists number are (omega arith))
    ∙ ap (λ (l : List (List (List ℕ))). signature_lines (rows_below place puid lists number) ++ flat_map line l) fields
    ∙ sym (flat_map-append (λ (r : SignatureRow). flat_map line (signature_fields r.puid r.sequences)) (rows_below place puid lists number) (row ∷ [])
    ∙ ap (λ t. signature_lines (rows_below place puid lists number) ++ t) (append-nil (flat_map line (signature_fields puid (combination lists number)))))
