-- A signature becomes rows, or is left out.
use Rattle.std.proofs.Common.{◌≡◌, ◌∙◌, ℕ, zero, suc, ◌+◌, ◌*◌, ◌-◌, ◌^◌, ◌/◌, ◌%◌, ◌<◌, ◌≤◌, min, List, [], ◌∷◌, ◌++◌, length, map, take, drop, get_or, length-append, refl, sym, ap, subst, append_assoc, arith}
use Rattle.std.specs.List.{flat_map, AllByRecursion}
use Rattle.std.proofs.lemmas.List.{append-nil}
use Rattle.std.proofs.lemmas.List.Concat.{flat_map-append}
use Rattle.droid_signature.specs.Csv.{line}
use Rattle.droid_pattern.specs.Patterns.{Element}
use Rattle.droid_pronom.specs.declared.rows.Offsets.{Offsets}
use Rattle.droid_signature_pattern.specs.Choices.{AreAllTaken, AreReadAs, AreTaken, IsTaken}
use Rattle.droid_signature_pattern.specs.Parts.{row_patterns}
use Rattle.droid_signature_pattern.specs.declared.choices.Choices.{Choices}
use Rattle.droid_signature.specs.RegistryTables.{SequenceFits, SequenceRow, SignatureRow, sequence_count, sequence_of, signature_fields, signature_lines}
use Rattle.droid_signature_file.specs.Records.{ByteSequenceRecord, SignatureRecord}
use Rattle.droid_signature_file.specs.Sequences.{choices}
use Rattle.droid_signature.specs.Formats.{puid_in}
use Rattle.droid_signature.specs.Sifting.{Sifted, by_place, left_out, none, taken}
use Rattle.droid_signature.specs.declared.left_out.LeftOut.{LeftOut}
use Rattle.droid_signature.specs.declared.left_out.Why.{Why}
use Rattle.droid_signature.specs.declared.left_out.Why.TheVariants as why
use Rattle.droid_signature.proofs.Sifting.{by_place_more}
use Rattle.droid_signature.specs.SignatureRows.{AreAllWritten, AreRowsFor, AreWritten, RowsFor, combination, flat, rows_below, rows_of, ways_of}
use Rattle.droid_signature.specs.SignatureTables.{HasLeft, IsNew}
use Rattle.droid_signature.specs.Signatures.{IsOnlySignature, IsReasonOfId, IsReasonOfSignature, LeavesSignature, Named, Signs, TakesSignature}
use Rattle.droid_signature.specs.declared.signature_table.SignatureTable.{SignatureTable}
use Rattle.droid_signature.proofs.Counting.{quotient_below, remainder_below}

-- ---- the registry's rows for what is taken

-- each text with its pattern
abbrev rows_for : Offsets → List (List ℕ) → List (List Element) → List SequenceRow
rows_for offsets [] patterns = []
rows_for offsets (text ∷ texts) [] = []
rows_for offsets (text ∷ texts) (es ∷ patterns) = record { offsets = offsets; text = text; pattern = es } ∷ rows_for offsets texts patterns

texts_same : (offsets : Offsets) (texts : List (List ℕ)) (patterns : List (List Element)) → AreReadAs texts patterns → map (λ row. row.text) (rows_for offsets texts patterns) ≡ texts
texts_same offsets [] [] are = refl
texts_same offsets [] (es ∷ patterns) are = absurd are
texts_same offsets (text ∷ texts) [] are = absurd are
texts_same offsets (text ∷ texts) (es ∷ patterns) (here, more) = ap (λ l. text ∷ l) (texts_same offsets texts patterns more)

offsets_same : (offsets : Offsets) (texts : List (List ℕ)) (patterns : List (List Element)) → AreReadAs texts patterns → AllByRecursion (λ row. row.offsets ≡ offsets) (rows_for offsets texts patterns)
offsets_same offsets [] [] are = tt
offsets_same offsets [] (es ∷ patterns) are = absurd are
offsets_same offsets (text ∷ texts) [] are = absurd are
offsets_same offsets (text ∷ texts) (es ∷ patterns) (here, more) = (refl, offsets_same offsets texts patterns more)

choices_same : (offsets : Offsets) (texts : List (List ℕ)) (patterns : List (List Element)) → AreReadAs texts patterns → map sequence_of (rows_for offsets texts patterns) ≡ choices offsets patterns
choices_same offsets [] [] are = refl
choices_same offsets [] (es ∷ patterns) are = absurd are
choices_same offsets (text ∷ texts) [] are = absurd are
choices_same offsets (text ∷ texts) (es ∷ patterns) (here, more) = ap (λ l. record { offsets = offsets; pattern = es } ∷ l) (choices_same offsets texts patterns more)

rows_fit : (offsets : Offsets) (texts : List (List ℕ)) (patterns : List (List Element)) → offsets.min ≤ offsets.max → offsets.max ≤ 65535 → AreReadAs texts patterns → AllByRecursion SequenceFits (rows_for offsets texts patterns)
rows_fit offsets [] [] ordered small are = tt
rows_fit offsets [] (es ∷ patterns) ordered small are = absurd are
rows_fit offsets (text ∷ texts) [] ordered small are = absurd are
rows_fit offsets (text ∷ texts) (es ∷ patterns) ordered small (here, more) = (record { ordered = ordered; small = small; spelled = here }, rows_fit offsets texts patterns ordered small more)

-- lists of rows for what each byte sequence becomes
pub record Written (sequences : List ByteSequenceRecord) (all : List Choices) : Type 0 where
  pub lists : List (List SequenceRow)
  pub are : AreAllWritten all lists
  pub stand : AreRowsFor sequences lists

rows_one : (sequence : ByteSequenceRecord) (it : Choices) → IsTaken sequence it → (rows : List SequenceRow) × AreWritten it rows × RowsFor sequence rows
rows_one sequence it is =
    let patterns = row_patterns is.first is.rest in (
      rows_for it.offsets it.texts patterns,
      record { texts = texts_same it.offsets it.texts patterns is.read; offsets = offsets_same it.offsets it.texts patterns is.read },
      record {
        offsets = it.offsets;
        patterns = patterns;
        stand = is.stand;
        same = choices_same it.offsets it.texts patterns is.read;
        fit = rows_fit it.offsets it.texts patterns is.is_read.are_read.ordered is.is_read.are_read.small is.read;
      },
    )

pub written : (sequences : List ByteSequenceRecord) (all : List Choices) → AreAllTaken sequences all → Written sequences all
written [] [] are = record { lists = []; are = tt; stand = tt }
written [] (it ∷ all) are = absurd are
written (sequence ∷ sequences) [] are = absurd are
written (sequence ∷ sequences) (it ∷ all) (here, more) =
    let (rows, is, stand) = rows_one sequence it here in
    let rest = written sequences all more in
    record { lists = rows ∷ rest.lists; are = (is, rest.are); stand = (stand, rest.stand) }

-- ---- counts

pub rows_length : (place : ℕ) (puid : List ℕ) (lists : List (List SequenceRow)) (count : ℕ) → length (rows_below place puid lists count) ≡ count
rows_length place puid lists zero = refl
rows_length place puid lists (suc number) = length-append (rows_below place puid lists number) (record { place = place; puid = puid; sequences = combination lists number } ∷ []) ∙ (let so_far = rows_length place puid lists number in omega arith)

sequences_append : (xs ys : List SignatureRow) → sequence_count (xs ++ ys) ≡ sequence_count xs + sequence_count ys
sequences_append [] ys = omega arith
sequences_append (x ∷ xs) ys = let more = sequences_append xs ys in omega arith

-- a row is one of these
take_one : {X : Type 0} (xs : List X) (i : ℕ) → i < length xs → length (take 1 (drop i xs)) ≡ 1
take_one [] i below = absurd (omega arith)
take_one (x ∷ xs) zero below = refl
take_one (x ∷ xs) (suc i) below = take_one xs i (omega arith)

pub combination_length : (lists : List (List SequenceRow)) (number : ℕ) → number < ways_of lists → length (combination lists number) ≡ length lists
combination_length [] number below = refl
combination_length (rows ∷ lists) number below =
    let place = quotient_below (length rows) (ways_of lists) number below in
    let one = take_one rows (number / ways_of lists) place in
    let more = combination_length lists (number % ways_of lists) (remainder_below (length rows) (ways_of lists) number below) in
    length-append (take 1 (drop (number / ways_of lists) rows)) (combination lists (number % ways_of lists)) ∙ omega arith

pub rows_sequences : (place : ℕ) (puid : List ℕ) (lists : List (List SequenceRow)) (count : ℕ) → count ≤ ways_of lists → sequence_count (rows_below place puid lists count) ≡ count * length lists
rows_sequences place puid lists zero few = omega arith
rows_sequences place puid lists (suc number) few =
    let row : SignatureRow = record { place = place; puid = puid; sequences = combination lists number } in
    let whole = sequences_append (rows_below place puid lists number) (row ∷ []) in
    let so_far = rows_sequences place puid lists number (omega arith) in
    let one = combination_length lists number (omega arith) in
    let product : suc number * length lists ≡ number * length lists + length lists = omega arith in
    omega arith

pub flat_push : (lists : List (List SignatureRow)) (rows : List SignatureRow) → flat (lists ++ rows ∷ []) ≡ flat lists ++ rows
flat_push lists rows = flat_map-append (λ (l : List SignatureRow). l) lists (rows ∷ []) ∙ ap (λ t. flat lists ++ t) (append-nil rows)

lines_push : (xs ys : List SignatureRow) → signature_lines (xs ++ ys) ≡ signature_lines xs ++ signature_lines ys
lines_push xs ys = flat_map-append (λ (r : SignatureRow). flat_map line (signature_fields r.puid r.sequences)) xs ys

-- ---- tables

pub signs_new : (signatures : List SignatureRecord) (table : SignatureTable) → IsNew table → Signs signatures [] table
signs_new signatures table is = record {
  rows = [];
  sifted = subst (λ (l : List LeftOut). Sifted (TakesSignature signatures) (LeavesSignature signatures) [] [] l) (sym is.left_out) none;
  text = is.text;
  taken = let none = is.taken in omega arith;
  count = is.count;
  sequences = is.sequences;
}

pub signs_left : (signatures : List SignatureRecord) (xs : List Named) (it : Named) (reason : Why) (old new : SignatureTable) → Signs signatures xs old → HasLeft old new it.of.place it.id reason
    → ((before : List (List SignatureRow)) → old.count ≡ length (flat before) → old.sequences ≡ sequence_count (flat before) → IsReasonOfSignature signatures before it.id reason)
    → Signs signatures (xs ++ it ∷ []) new
signs_left signatures xs it reason old new signs has holds = record {
  rows = signs.rows;
  sifted =
      subst (λ (l : List LeftOut). Sifted (TakesSignature signatures) (LeavesSignature signatures) (xs ++ it ∷ []) signs.rows l) (sym has.left_out)
      (left_out signs.sifted (record { why = reason; listed = refl; holds = holds signs.rows signs.count signs.sequences }));
  text = has.text ∙ signs.text;
  taken = has.taken ∙ signs.taken;
  count = has.count ∙ signs.count;
  sequences = has.sequences ∙ signs.sequences;
}

pub signs_taken : (signatures : List SignatureRecord) (xs : List Named) (it : Named) (at : ℕ) (signature : SignatureRecord) (all : List Choices) (lists : List (List SequenceRow)) (old new : SignatureTable) → Signs signatures xs old
    → IsOnlySignature signatures it.id at signature → AreTaken signature.sequences all → AreAllWritten all lists → AreRowsFor signature.sequences lists → 0 < length lists
    → new.text.items ≡ old.text.items ++ signature_lines (rows_of it.place (puid_in it.of.format) lists) → new.taken ≡ min (old.taken + 1) (2 ^ 64 - 1) → new.count ≡ old.count + ways_of lists → new.sequences ≡ old.sequences + ways_of lists * length lists
    → new.left_out.items ≡ old.left_out.items → new.count ≤ 16384 → new.sequences ≤ 32768 → Signs signatures (xs ++ it ∷ []) new
signs_taken signatures xs it at signature all lists old new signs only becomes written stand some text one_more count sequences left few fewer =
    let rows = rows_of it.place (puid_in it.of.format) lists in
    let grown = flat_push signs.rows rows in
    let one = rows_length it.place (puid_in it.of.format) lists (ways_of lists) in
    let several = rows_sequences it.place (puid_in it.of.format) lists (ways_of lists) (omega arith) in
    let longer : length (flat (signs.rows ++ rows ∷ [])) ≡ length (flat signs.rows) + ways_of lists = ap length grown ∙ length-append (flat signs.rows) rows ∙ ap (λ n. length (flat signs.rows) + n) one in
    let more : sequence_count (flat (signs.rows ++ rows ∷ [])) ≡ sequence_count (flat signs.rows) + ways_of lists * length lists = ap sequence_count grown ∙ sequences_append (flat signs.rows) rows ∙ ap (λ n. sequence_count (flat signs.rows) + n) several in
    let was = signs.count in
    let were = signs.sequences in
    let so_far = signs.taken in
    let next = length-append signs.rows (rows ∷ []) in
    record {
      rows = signs.rows ++ rows ∷ [];
      sifted =
          subst (λ (l : List LeftOut). Sifted (TakesSignature signatures) (LeavesSignature signatures) (xs ++ it ∷ []) (signs.rows ++ rows ∷ []) l) (sym left)
          (taken signs.sifted (record { at = at; signature = signature; only = only; all = all; becomes = becomes; lists = lists; written = written; stand = stand; some = some; same = refl; few_signatures = omega arith; few_sequences = omega arith }));
      text = text ∙ ap (λ t. t ++ signature_lines rows) signs.text ∙ sym (lines_push (flat signs.rows) rows) ∙ ap signature_lines (sym grown);
      taken = omega arith;
      count = omega arith;
      sequences = omega arith;
    }

-- ---- loops

pub signs_start : (signatures : List SignatureRecord) (xs : List Named) (table : SignatureTable) → Signs signatures xs table → Signs signatures (xs ++ []) table
signs_start signatures xs table signs = subst (λ (l : List Named). Signs signatures l table) (sym (append-nil xs)) signs

pub signs_more : {I : Type 0} (signatures : List SignatureRecord) (f : ℕ → I → List Named) (items : List I) (i : ℕ) (item : I) (xs : List Named) (table : SignatureTable) → i < length items → item ≡ get_or items i item
    → Signs signatures (xs ++ by_place f 0 (take i items) ++ f i item) table → Signs signatures (xs ++ by_place f 0 (take (i + 1) items)) table
signs_more signatures f items i item xs table below is signs =
    subst (λ (l : List Named). Signs signatures l table) (append_assoc xs (by_place f 0 (take i items)) (f i item) ∙ ap (λ t. xs ++ t) (sym (by_place_more f items i item below is))) signs

pub all_signs_more : {I : Type 0} (signatures : List SignatureRecord) (f : ℕ → I → List Named) (items : List I) (i : ℕ) (item : I) (table : SignatureTable) → i < length items → item ≡ get_or items i item
    → Signs signatures (by_place f 0 (take i items) ++ f i item) table → Signs signatures (by_place f 0 (take (i + 1) items)) table
all_signs_more signatures f items i item table below is signs = subst (λ (l : List Named). Signs signatures l table) (sym (by_place_more f items i item below is)) signs

pub id_reason : (signatures : List SignatureRecord) (before : List (List SignatureRow)) (id : ℕ) (reason : Why) → IsReasonOfId signatures id reason → IsReasonOfSignature signatures before id reason
id_reason signatures before id why.NoSuchSignature is = is
id_reason signatures before id why.SeveralSignatures is = is
id_reason signatures before id (why.Signature reason) is = is
id_reason signatures before id other is = absurd is
