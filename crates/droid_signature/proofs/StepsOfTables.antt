-- Tables that a registry takes are read row by row.
use Rattle.std.proofs.Common.{◌≡◌, ◌∙◌, ℕ, suc, ◌+◌, ◌<◌, ◌≤◌, true, List, [], ◌∷◌, ◌++◌, length, map, Option, Some, None, Result, Ok, refl, sym, ap, subst, append_assoc, arith, length-append}
use Rattle.std.specs.Prelude.{◌&&◌, not, nat_lt, codes, decimal, IsUtf8}
use Rattle.std.specs.List.{flat_map, AllByRecursion}
use Rattle.std.specs.Str.{IsAscii, bytes_eq}
use Rattle.std.proofs.lemmas.Bool.{and_from, eq-eqb, lt-ltb}
use Rattle.std.proofs.lemmas.Fmt.{IsAscii-decimal}
use Rattle.std.proofs.lemmas.List.{append-nil}
use Rattle.std.proofs.lemmas.List.Concat.{flat_map-append}
use Rattle.std.proofs.lemmas.Str.{IsUtf8-from_ascii}
use Rattle.std.proofs.lemmas.Str.Ascii.{IsAscii-cons, IsAscii-nil}
use Rattle.csv.specs.Reading.{strip_bom}
use Rattle.csv.specs.Records.{AllText}
use Rattle.csv.specs.declared.parser.State.TheVariants as st
use Rattle.droid_signature.specs.Csv.{doubled, joined, line, quoted}
use Rattle.droid_pronom.specs.Registry.{Signed, place_of}
use Rattle.droid_pronom.specs.RegistryFields.{is_empty, is_extension, is_name, is_note, is_puid}
use Rattle.droid_pronom.specs.declared.format.Format.{Format}
use Rattle.droid_pronom.specs.declared.rows.Anchor.{Anchor}
use Rattle.droid_pronom.specs.declared.rows.Anchor.TheVariants.{Bof, Eof}
use Rattle.droid_pronom.specs.declared.rows.ByteSequence.{ByteSequence}
use Rattle.droid_pronom.specs.declared.rows.ListedExtension.{ListedExtension}
use Rattle.droid_pronom.specs.declared.rows.Offsets.{Offsets}
use Rattle.droid_pronom.specs.declared.rows.Priority.{Priority}
use Rattle.droid_pronom.specs.RegistryFile.{File, Outcome, empty_draft}
use Rattle.droid_pronom.specs.RegistryFile as file
use Rattle.droid_pronom.specs.RegistryGrowth.{extended}
use Rattle.droid_pronom.specs.RegistryRecords.{Draft, RecordFault, Step, WithPattern, extension_taken, format_taken, judged, priority_taken, sequence_added, sequence_head, signature_added, signature_head}
use Rattle.droid_signature.specs.RowSteps.{Steps, none, more}
use Rattle.droid_signature.specs.RegistryTables.{AreTables, ExtensionFits, ExtensionRow, FormatFits, FormatsFit, PriorityFits, PriorityRow, SequenceFits, SequenceRow, SignatureFits, SignatureRow, Tables, anchor_text, extension_fields, extension_lines, file_of, format_fields, format_lines, listed, prior, priority_fields, priority_lines, registry_of, sequence_count, sequence_fields, sequence_of, signature_fields, signed}
use Rattle.droid_signature.proofs.FieldTexts.{offsets_read, puid_utf8}
use Rattle.droid_signature.proofs.RowSteps.{read_back}
use Rattle.droid_signature.proofs.SpelledTexts.{spelled_utf8}

-- a draft by its parts
abbrev drafted : List Format → List ListedExtension → List Priority → List Signed → ℕ → Option ℕ → Draft
drafted formats extensions priorities signatures count current = record {
  registry = record { formats = formats; extensions = extensions; priorities = priorities; signatures = signatures };
  sequences = count;
  current = current;
}

-- ---- steps one after the other

steps_append : (a b c : Draft) (first second : List (List (List ℕ))) → Steps a first b → Steps b second c → Steps a (first ++ second) c
steps_append a b c first second none later = later
steps_append a b c first second (more {next = next} {field = field} {fields = fields} {rows = rest} step steps) later = more step (steps_append next b c rest second steps later)

-- ---- texts

letter : (c : ℕ) → c < 128 → IsUtf8 (c ∷ [])
letter c small = IsUtf8-from_ascii (c ∷ []) (IsAscii-cons c [] small IsAscii-nil)

blank : IsUtf8 []
blank = IsUtf8-from_ascii [] IsAscii-nil

number_utf8 : (n : ℕ) → n ≤ 65535 → IsUtf8 (decimal n)
number_utf8 n small = IsUtf8-from_ascii (decimal n) (IsAscii-decimal n (omega arith))

anchor_ascii : (anchor : Anchor) → IsAscii (anchor_text anchor)
anchor_ascii Bof = IsAscii-cons 66 (79 ∷ 70 ∷ []) (omega arith) (IsAscii-cons 79 (70 ∷ []) (omega arith) (IsAscii-cons 70 [] (omega arith) IsAscii-nil))
anchor_ascii Eof = IsAscii-cons 69 (79 ∷ 70 ∷ []) (omega arith) (IsAscii-cons 79 (70 ∷ []) (omega arith) (IsAscii-cons 70 [] (omega arith) IsAscii-nil))

anchor_utf8 : (anchor : Anchor) → IsUtf8 (anchor_text anchor)
anchor_utf8 anchor = IsUtf8-from_ascii (anchor_text anchor) (anchor_ascii anchor)

-- ---- formats

format_is : (before : List Format) (it : Format) → FormatFits before it
    → format_taken (drafted before [] [] [] 0 None) it.puid it.name it.version it.mime [] ≡ Ok (drafted (before ++ it ∷ []) [] [] [] 0 None)
unfolding format_taken
format_is before it fits =
    let formed : (is_puid it.puid && is_name it.name && is_note it.version && is_note it.mime && is_empty []) ≡ true =
    and_from (is_puid it.puid && is_name it.name && is_note it.version && is_note it.mime) (is_empty [])
    (and_from (is_puid it.puid && is_name it.name && is_note it.version) (is_note it.mime)
    (and_from (is_puid it.puid && is_name it.name) (is_note it.version) (and_from (is_puid it.puid) (is_name it.name) fits.named fits.called) fits.versioned) fits.typed) refl in
    rw (formed, fits.fresh, lt-ltb (length before) 4096 fits.room) refl

format_step : (before : List Format) (it : Format) → FormatFits before it → Step (drafted before [] [] [] 0 None) (format_fields it) (Ok (drafted (before ++ it ∷ []) [] [] [] 0 None))
unfolding AllText
format_step before it fits = judged (letter 70 (omega arith), (puid_utf8 it.puid fits.named, (fits.name, (fits.version, (fits.mime, (blank, tt)))))) (format_is before it fits)

format_steps : (before formats : List Format) → FormatsFit before formats → Steps (drafted before [] [] [] 0 None) (map format_fields formats) (drafted (before ++ formats) [] [] [] 0 None)
format_steps before [] fits = subst (λ (l : List Format). Steps (drafted before [] [] [] 0 None) [] (drafted l [] [] [] 0 None)) (sym (append-nil before)) none
format_steps before (it ∷ formats) (here, later) =
    subst (λ (l : List Format). Steps (drafted before [] [] [] 0 None) (format_fields it ∷ map format_fields formats) (drafted l [] [] [] 0 None)) (append_assoc before (it ∷ []) formats)
    (more (format_step before it here) (format_steps (before ++ it ∷ []) formats later))

-- ---- extensions

extension_is : (formats : List Format) (before : List ListedExtension) (row : ExtensionRow) → ExtensionFits formats row → length before < 16384
    → extension_taken (drafted formats before [] [] 0 None) row.puid row.text [] [] [] ≡ Ok (drafted formats (before ++ listed row ∷ []) [] [] 0 None)
unfolding extension_taken
extension_is formats before row fits room =
    let formed : (is_puid row.puid && is_extension row.text && is_empty [] && is_empty [] && is_empty []) ≡ true =
    and_from (is_puid row.puid && is_extension row.text && is_empty [] && is_empty []) (is_empty [])
    (and_from (is_puid row.puid && is_extension row.text && is_empty []) (is_empty [])
    (and_from (is_puid row.puid && is_extension row.text) (is_empty []) (and_from (is_puid row.puid) (is_extension row.text) fits.named fits.valid) refl) refl) refl in
    rw (formed, fits.placed, lt-ltb (length before) 16384 room) refl

extension_step : (formats : List Format) (before : List ListedExtension) (row : ExtensionRow) → ExtensionFits formats row → length before < 16384
    → Step (drafted formats before [] [] 0 None) (extension_fields row) (Ok (drafted formats (before ++ listed row ∷ []) [] [] 0 None))
unfolding AllText
extension_step formats before row fits room =
    judged (letter 69 (omega arith), (puid_utf8 row.puid fits.named, (fits.readable, (blank, (blank, (blank, tt)))))) (extension_is formats before row fits room)

extension_steps : (formats : List Format) (before : List ListedExtension) (rows : List ExtensionRow) → AllByRecursion (ExtensionFits formats) rows → length before + length rows ≤ 16384
    → Steps (drafted formats before [] [] 0 None) (map extension_fields rows) (drafted formats (before ++ map listed rows) [] [] 0 None)
extension_steps formats before [] fits few = subst (λ (l : List ListedExtension). Steps (drafted formats before [] [] 0 None) [] (drafted formats l [] [] 0 None)) (sym (append-nil before)) none
extension_steps formats before (row ∷ rows) (here, later) few =
    let longer : length (before ++ listed row ∷ []) ≡ length before + 1 = length-append before (listed row ∷ []) in
    subst (λ (l : List ListedExtension). Steps (drafted formats before [] [] 0 None) (extension_fields row ∷ map extension_fields rows) (drafted formats l [] [] 0 None))
    (append_assoc before (listed row ∷ []) (map listed rows))
    (more (extension_step formats before row here (omega arith)) (extension_steps formats (before ++ listed row ∷ []) rows later (omega arith)))

-- ---- priorities

priority_is : (formats : List Format) (extensions : List ListedExtension) (before : List Priority) (row : PriorityRow) → PriorityFits formats row → length before < 16384
    → priority_taken (drafted formats extensions before [] 0 None) row.puid row.other [] [] [] ≡ Ok (drafted formats extensions (before ++ prior row ∷ []) [] 0 None)
unfolding priority_taken
priority_is formats extensions before row fits room =
    let differ : not (bytes_eq row.puid row.other) ≡ true = ap not fits.differ in
    let formed : (is_puid row.puid && is_puid row.other && not (bytes_eq row.puid row.other) && is_empty [] && is_empty [] && is_empty []) ≡ true =
    and_from (is_puid row.puid && is_puid row.other && not (bytes_eq row.puid row.other) && is_empty [] && is_empty []) (is_empty [])
    (and_from (is_puid row.puid && is_puid row.other && not (bytes_eq row.puid row.other) && is_empty []) (is_empty [])
    (and_from (is_puid row.puid && is_puid row.other && not (bytes_eq row.puid row.other)) (is_empty [])
    (and_from (is_puid row.puid && is_puid row.other) (not (bytes_eq row.puid row.other)) (and_from (is_puid row.puid) (is_puid row.other) fits.named fits.named_other) differ) refl) refl) refl in
    rw (formed, fits.placed, fits.placed_other, lt-ltb (length before) 16384 room) refl

priority_step : (formats : List Format) (extensions : List ListedExtension) (before : List Priority) (row : PriorityRow) → PriorityFits formats row → length before < 16384
    → Step (drafted formats extensions before [] 0 None) (priority_fields row) (Ok (drafted formats extensions (before ++ prior row ∷ []) [] 0 None))
unfolding AllText
priority_step formats extensions before row fits room =
    judged (letter 80 (omega arith), (puid_utf8 row.puid fits.named, (puid_utf8 row.other fits.named_other, (blank, (blank, (blank, tt)))))) (priority_is formats extensions before row fits room)

priority_steps : (formats : List Format) (extensions : List ListedExtension) (before : List Priority) (rows : List PriorityRow) → AllByRecursion (PriorityFits formats) rows → length before + length rows ≤ 16384
    → Steps (drafted formats extensions before [] 0 None) (map priority_fields rows) (drafted formats extensions (before ++ map prior rows) [] 0 None)
priority_steps formats extensions before [] fits few = subst (λ (l : List Priority). Steps (drafted formats extensions before [] 0 None) [] (drafted formats extensions l [] 0 None)) (sym (append-nil before)) none
priority_steps formats extensions before (row ∷ rows) (here, later) few =
    let longer : length (before ++ prior row ∷ []) ≡ length before + 1 = length-append before (prior row ∷ []) in
    subst (λ (l : List Priority). Steps (drafted formats extensions before [] 0 None) (priority_fields row ∷ map priority_fields rows) (drafted formats extensions l [] 0 None))
    (append_assoc before (prior row ∷ []) (map prior rows))
    (more (priority_step formats extensions before row here (omega arith)) (priority_steps formats extensions (before ++ prior row ∷ []) rows later (omega arith)))

-- ---- signatures

module _ (formats : List Format) (extensions : List ListedExtension) (priorities : List Priority) where
  -- a draft with these signatures
  abbrev with : List Signed → ℕ → Option ℕ → Draft
  with signatures count current = drafted formats extensions priorities signatures count current

  head_is : (signatures : List Signed) (count : ℕ) (current : Option ℕ) (puid : List ℕ) (place : ℕ) (row : SequenceRow) → is_puid puid ≡ true → place_of puid formats ≡ Some place → SequenceFits row
      → signature_head (with signatures count current) puid (anchor_text row.offsets.anchor) (decimal row.offsets.min) (decimal row.offsets.max) ≡ Ok (place, row.offsets)
  unfolding signature_head
  head_is signatures count current puid place row named placed fits = rw (named, offsets_read row.offsets fits.ordered fits.small, placed) refl

  added_is : (signatures : List Signed) (count : ℕ) (current : Option ℕ) (place : ℕ) (row : SequenceRow) → length signatures < 16384 → count < 32768
      → signature_added (with signatures count current) (place, row.offsets) (Some row.pattern)
      ≡ Ok (with (signatures ++ record { place = place; sequences = sequence_of row ∷ [] } ∷ []) (count + 1) (Some place))
  unfolding signature_added
  added_is signatures count current place row room left =
      rw (and_from (nat_lt (length signatures) 16384) (nat_lt count 32768) (lt-ltb (length signatures) 16384 room) (lt-ltb count 32768 left)) refl

  texts_are : (letter_text puid : List ℕ) (row : SequenceRow) → IsUtf8 letter_text → is_puid puid ≡ true → SequenceFits row → AllText (sequence_fields letter_text puid row)
  unfolding AllText
  texts_are letter_text puid row lettered named fits =
      (lettered, (puid_utf8 puid named, (anchor_utf8 row.offsets.anchor, (number_utf8 row.offsets.min (let small = fits.small in let ordered = fits.ordered in omega arith), (number_utf8 row.offsets.max fits.small, (spelled_utf8 row.text row.pattern fits.spelled, tt))))))

  first_step : (signatures : List Signed) (count : ℕ) (current : Option ℕ) (puid : List ℕ) (place : ℕ) (row : SequenceRow) → is_puid puid ≡ true → place_of puid formats ≡ Some place → SequenceFits row
      → length signatures < 16384 → count < 32768
      → Step (with signatures count current) (sequence_fields (codes "S") puid row) (Ok (with (signatures ++ record { place = place; sequences = sequence_of row ∷ [] } ∷ []) (count + 1) (Some place)))
  first_step signatures count current puid place row named placed fits room left =
      let next = with (signatures ++ record { place = place; sequences = sequence_of row ∷ [] } ∷ []) (count + 1) (Some place) in
      let W : Result (ℕ × Offsets) RecordFault → Type 0 = λ head. WithPattern head row.text (signature_added (with signatures count current)) (Ok next) in
      judged (texts_are (codes "S") puid row (letter 83 (omega arith)) named fits)
      (subst W (sym (head_is signatures count current puid place row named placed fits)) (Some row.pattern, fits.spelled, sym (added_is signatures count current place row room left)))

  -- one more byte sequence of the last signature
  extended_last : (q : ByteSequence) (before : List Signed) (last : Signed) → extended q (before ++ last ∷ []) ≡ before ++ record last { sequences = last.sequences ++ q ∷ [] } ∷ []
  extended_last q [] last = refl
  extended_last q (x ∷ []) last = refl
  extended_last q (x ∷ y ∷ before) last = ap (λ t. x ∷ t) (extended_last q (y ∷ before) last)

  further_head : (signatures : List Signed) (count : ℕ) (puid : List ℕ) (place : ℕ) (row : SequenceRow) → place_of puid formats ≡ Some place → SequenceFits row
      → sequence_head (with signatures count (Some place)) puid (anchor_text row.offsets.anchor) (decimal row.offsets.min) (decimal row.offsets.max) ≡ Ok row.offsets
  unfolding sequence_head
  further_head signatures count puid place row placed fits = rw (offsets_read row.offsets fits.ordered fits.small, placed, eq-eqb place place refl) refl

  further_added : (before : List Signed) (count place : ℕ) (done : List ByteSequence) (row : SequenceRow) → count < 32768
      → sequence_added (with (before ++ record { place = place; sequences = done } ∷ []) count (Some place)) row.offsets (Some row.pattern)
      ≡ Ok (with (before ++ record { place = place; sequences = done ++ sequence_of row ∷ [] } ∷ []) (count + 1) (Some place))
  unfolding sequence_added
  further_added before count place done row left =
      rw (lt-ltb count 32768 left) (ap (λ (l : List Signed). Ok (with l (count + 1) (Some place))) (extended_last (sequence_of row) before (record { place = place; sequences = done })))

  further_step : (before : List Signed) (count : ℕ) (puid : List ℕ) (place : ℕ) (done : List ByteSequence) (row : SequenceRow) → is_puid puid ≡ true → place_of puid formats ≡ Some place → SequenceFits row → count < 32768
      → Step (with (before ++ record { place = place; sequences = done } ∷ []) count (Some place)) (sequence_fields (codes "B") puid row)
      (Ok (with (before ++ record { place = place; sequences = done ++ sequence_of row ∷ [] } ∷ []) (count + 1) (Some place)))
  further_step before count puid place done row named placed fits left =
      let old = with (before ++ record { place = place; sequences = done } ∷ []) count (Some place) in
      let next = with (before ++ record { place = place; sequences = done ++ sequence_of row ∷ [] } ∷ []) (count + 1) (Some place) in
      let W : Result Offsets RecordFault → Type 0 = λ head. WithPattern head row.text (sequence_added old) (Ok next) in
      judged (texts_are (codes "B") puid row (letter 66 (omega arith)) named fits)
      (subst W (sym (further_head (before ++ record { place = place; sequences = done } ∷ []) count puid place row placed fits)) (Some row.pattern, fits.spelled, sym (further_added before count place done row left)))

  further_steps : (before : List Signed) (count : ℕ) (puid : List ℕ) (place : ℕ) (done : List ByteSequence) (rows : List SequenceRow) → is_puid puid ≡ true → place_of puid formats ≡ Some place
      → AllByRecursion SequenceFits rows → count + length rows ≤ 32768
      → Steps (with (before ++ record { place = place; sequences = done } ∷ []) count (Some place)) (map (sequence_fields (codes "B") puid) rows)
      (with (before ++ record { place = place; sequences = done ++ map sequence_of rows } ∷ []) (count + length rows) (Some place))
  further_steps before count puid place done [] named placed fits left =
      let start = with (before ++ record { place = place; sequences = done } ∷ []) count (Some place) in
      let same_count : count ≡ count + 0 = omega arith in
      subst (λ (d : Draft). Steps start [] d)
      (ap (λ (l : List ByteSequence). with (before ++ record { place = place; sequences = l } ∷ []) count (Some place)) (sym (append-nil done))
      ∙ ap (λ (n : ℕ). with (before ++ record { place = place; sequences = done ++ [] } ∷ []) n (Some place)) same_count)
      none
  further_steps before count puid place done (row ∷ rows) named placed (here, later) left =
      let start = with (before ++ record { place = place; sequences = done } ∷ []) count (Some place) in
      let same_count : count + 1 + length rows ≡ count + suc (length rows) = omega arith in
      subst (λ (d : Draft). Steps start (sequence_fields (codes "B") puid row ∷ map (sequence_fields (codes "B") puid) rows) d)
      (ap (λ (l : List ByteSequence). with (before ++ record { place = place; sequences = l } ∷ []) (count + 1 + length rows) (Some place)) (append_assoc done (sequence_of row ∷ []) (map sequence_of rows))
      ∙ ap (λ (n : ℕ). with (before ++ record { place = place; sequences = done ++ map sequence_of (row ∷ rows) } ∷ []) n (Some place)) same_count)
      (more (further_step before count puid place done row named placed here (omega arith)) (further_steps before (count + 1) puid place (done ++ sequence_of row ∷ []) rows named placed later (omega arith)))

  signature_steps : (before : List Signed) (count : ℕ) (current : Option ℕ) (puid : List ℕ) (place : ℕ) (rows : List SequenceRow) → is_puid puid ≡ true → place_of puid formats ≡ Some place
      → 0 < length rows → AllByRecursion SequenceFits rows → length before < 16384 → count + length rows ≤ 32768
      → Steps (with before count current) (signature_fields puid rows) (with (before ++ record { place = place; sequences = map sequence_of rows } ∷ []) (count + length rows) (Some place))
  signature_steps before count current puid place [] named placed some fits room left = absurd (omega arith)
  signature_steps before count current puid place (row ∷ rows) named placed some (here, later) room left =
      let start = with before count current in
      let same_count : count + 1 + length rows ≡ count + suc (length rows) = omega arith in
      subst (λ (n : ℕ). Steps start (signature_fields puid (row ∷ rows)) (with (before ++ record { place = place; sequences = map sequence_of (row ∷ rows) } ∷ []) n (Some place))) same_count
      (more (first_step before count current puid place row named placed here room (omega arith)) (further_steps before (count + 1) puid place (sequence_of row ∷ []) rows named placed later (omega arith)))

  -- the place to which the last row belongs
  record Read (before : List Signed) (count : ℕ) (current : Option ℕ) (rows : List SignatureRow) : Type 0 where
    pub last : Option ℕ
    pub steps : Steps (with before count current) (flat_map (λ row. signature_fields row.puid row.sequences) rows) (with (before ++ map signed rows) (count + sequence_count rows) last)

  signatures_steps : (before : List Signed) (count : ℕ) (current : Option ℕ) (rows : List SignatureRow) → AllByRecursion (SignatureFits formats) rows → length before + length rows ≤ 16384 → count + sequence_count rows ≤ 32768
      → Read before count current rows
  signatures_steps before count current [] fits few left =
      let same_count : count ≡ count + 0 = omega arith in
      record {
        last = current;
        steps = subst (λ (d : Draft). Steps (with before count current) [] d)
            (ap (λ (l : List Signed). with l count current) (sym (append-nil before)) ∙ ap (λ (n : ℕ). with (before ++ []) n current) same_count) none;
      }
  signatures_steps before count current (row ∷ rows) (here, later) few left =
      let longer : length (before ++ signed row ∷ []) ≡ length before + 1 = length-append before (signed row ∷ []) in
      let rest = signatures_steps (before ++ signed row ∷ []) (count + length row.sequences) (Some row.place) rows later (omega arith) (omega arith) in
      let same_count : count + length row.sequences + sequence_count rows ≡ count + (length row.sequences + sequence_count rows) = omega arith in
      record {
        last = rest.last;
        steps =
            steps_append (with before count current) (with (before ++ signed row ∷ []) (count + length row.sequences) (Some row.place)) (with (before ++ map signed (row ∷ rows)) (count + sequence_count (row ∷ rows)) rest.last)
            (signature_fields row.puid row.sequences) (flat_map (λ other. signature_fields other.puid other.sequences) rows)
            (signature_steps before count current row.puid row.place row.sequences here.named here.placed here.some here.each (omega arith) (omega arith))
            (subst (λ (d : Draft). Steps (with (before ++ signed row ∷ []) (count + length row.sequences) (Some row.place)) (flat_map (λ other. signature_fields other.puid other.sequences) rows) d)
            (ap (λ (l : List Signed). with l (count + length row.sequences + sequence_count rows) rest.last) (append_assoc before (signed row ∷ []) (map signed rows))
            ∙ ap (λ (n : ℕ). with (before ++ map signed (row ∷ rows)) n rest.last) same_count)
            rest.steps);
      }

-- ---- all tables

lines_map : {X : Type 0} (f : X → List (List ℕ)) (xs : List X) → flat_map line (map f xs) ≡ flat_map (λ x. line (f x)) xs
lines_map f [] = refl
lines_map f (x ∷ xs) = ap (λ t. line (f x) ++ t) (lines_map f xs)

lines_flat : {X : Type 0} (f : X → List (List (List ℕ))) (xs : List X) → flat_map line (flat_map f xs) ≡ flat_map (λ x. flat_map line (f x)) xs
lines_flat f [] = refl
lines_flat f (x ∷ xs) = flat_map-append line (f x) (flat_map f xs) ∙ ap (λ t. flat_map line (f x) ++ t) (lines_flat f xs)

abbrev rows_of : Tables → List (List (List ℕ))
rows_of tables =
    map format_fields tables.formats
    ++ (map extension_fields tables.extensions ++ (map priority_fields tables.priorities ++ flat_map (λ row. signature_fields row.puid row.sequences) tables.signatures))

lines_are : (tables : Tables) → flat_map line (rows_of tables) ≡ file_of tables
lines_are tables =
    let fs = map format_fields tables.formats in
    let es = map extension_fields tables.extensions in
    let ps = map priority_fields tables.priorities in
    let ss = flat_map (λ (row : SignatureRow). signature_fields row.puid row.sequences) tables.signatures in
    flat_map-append line fs (es ++ (ps ++ ss))
    ∙ ap (λ t. t ++ flat_map line (es ++ (ps ++ ss))) (lines_map format_fields tables.formats)
    ∙ ap (λ t. format_lines tables.formats ++ t)
    (flat_map-append line es (ps ++ ss)
    ∙ ap (λ t. t ++ flat_map line (ps ++ ss)) (lines_map extension_fields tables.extensions)
    ∙ ap (λ t. extension_lines tables.extensions ++ t)
    (flat_map-append line ps ss
    ∙ ap (λ t. t ++ flat_map line ss) (lines_map priority_fields tables.priorities)
    ∙ ap (λ t. priority_lines tables.priorities ++ t) (lines_flat (λ (row : SignatureRow). signature_fields row.puid row.sequences) tables.signatures)))

-- rows begin with a quote, and so with no byte order mark
marked : (rest : List ℕ) → strip_bom (34 ∷ rest) ≡ 34 ∷ rest
unfolding strip_bom
marked [] = refl
marked (b ∷ []) = refl
marked (b ∷ c ∷ rest) = refl

begins : (field : List ℕ) (fields : List (List ℕ)) (tail : List ℕ) → strip_bom (line (field ∷ fields) ++ tail) ≡ line (field ∷ fields) ++ tail
unfolding line joined quoted
begins field [] tail = marked (flat_map doubled field ++ 34 ∷ [] ++ 10 ∷ [] ++ tail)
begins field (next ∷ fields) tail = marked (flat_map doubled field ++ 34 ∷ [] ++ 44 ∷ joined (next ∷ fields) ++ 10 ∷ [] ++ tail)

no_mark : (draft final : Draft) (rows : List (List (List ℕ))) → Steps draft rows final → strip_bom (flat_map line rows) ≡ flat_map line rows
unfolding strip_bom
no_mark draft final rows none = refl
no_mark draft final rows (more {next = next} {field = field} {fields = fields} {rows = rest} step steps) = begins field fields (flat_map line rest)

pub tables_read : (tables : Tables) → AreTables tables → length (file_of tables) ≤ 16777216 → File (file_of tables) (Ok (registry_of tables))
tables_read tables are few =
    let fs = tables.formats in
    let es = map listed tables.extensions in
    let ps = map prior tables.priorities in
    let signatures = signatures_steps fs es ps [] 0 None tables.signatures are.signatures (omega arith) (omega arith) in
    let final = drafted fs es ps (map signed tables.signatures) (0 + sequence_count tables.signatures) signatures.last in
    let steps : Steps empty_draft (rows_of tables) final =
    steps_append empty_draft (drafted fs [] [] [] 0 None) final (map format_fields fs) _ (format_steps [] fs are.formats)
    (steps_append (drafted fs [] [] [] 0 None) (drafted fs es [] [] 0 None) final (map extension_fields tables.extensions) _ (extension_steps fs [] tables.extensions are.extensions (omega arith))
    (steps_append (drafted fs es [] [] 0 None) (drafted fs es ps [] 0 None) final (map priority_fields tables.priorities) _ (priority_steps fs es [] tables.priorities are.priorities (omega arith)) signatures.steps)) in
    let text = lines_are tables in
    file.read few
    (subst (λ (t : List ℕ). Outcome empty_draft st.StartRecord t (Ok (registry_of tables))) (sym (ap strip_bom (sym text) ∙ no_mark empty_draft final (rows_of tables) steps ∙ text) ∙ refl)
    (subst (λ (t : List ℕ). Outcome empty_draft st.StartRecord t (Ok (registry_of tables))) text (read_back empty_draft final (rows_of tables) steps)))
