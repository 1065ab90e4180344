-- The tables are within a registry's limits.
use Rattle.std.proofs.Common.{◌≡◌, ◌∙◌, ℕ, zero, suc, ◌+◌, ◌*◌, ◌/◌, ◌%◌, ◌<◌, ◌≤◌, true, List, [], ◌∷◌, ◌++◌, length, take, drop, Some, length-append, sym, ap, subst, append_assoc, arith}
use Rattle.std.specs.Bool.{IsTrue}
use Rattle.std.specs.List.{AllByRecursion, slice_get}
use Rattle.std.proofs.lemmas.List.{append-nil}
use Rattle.droid_pronom.specs.Registry.{Contents, IsRegistry, place_of}
use Rattle.droid_pronom.specs.RegistryFields.{is_puid}
use Rattle.droid_pronom.specs.declared.format.Format.{Format}
use Rattle.droid_pronom.proofs.RegistryTables.{rules_format}
use Rattle.droid_pronom.proofs.Flags.{all_push}
use Rattle.droid_signature.specs.SignatureRows.{AreRowsFor, combination, flat, rows_below, ways_of}
use Rattle.droid_signature.specs.Signatures.{LeavesSignature, Named, TakesSignature, all_signatures, signatures_of}
use Rattle.droid_signature.proofs.Signing.{combination_length, flat_push, rows_length, rows_sequences}
use Rattle.droid_signature.specs.RegistryTables.{AreTables, ExtensionFits, FormatFits, FormatsFit, PriorityFits, SequenceFits, SequenceRow, SignatureFits, SignatureRow, sequence_count}
use Rattle.droid_signature_file.specs.Records.{ByteSequenceRecord, FileRecord, SignatureRecord}
use Rattle.droid_signature.specs.Extensions.{Extension, LeavesExtension, TakesExtension, all_extensions, extensions_of}
use Rattle.droid_signature.specs.Formats.{LeavesFormat, Placed, TakesFormat, format_of, formats_of, placed, puid_in}
use Rattle.droid_signature.specs.Priorities.{LeavesPriority, Priority, TakesPriority, all_priorities, priorities_of}
use Rattle.droid_signature.specs.Sifting.{Sifted, by_place, left_out, none, taken}
use Rattle.droid_signature.specs.declared.left_out.LeftOut.{LeftOut}
use Rattle.droid_signature.proofs.Keepings.{formats_push}
use Rattle.droid_signature.specs.Conversion.{Parts, tables_of}
use Rattle.droid_signature.proofs.Members.{Among, at_place, by_place_parts, sifted_few, sifted_rows, singles_parts}

-- ---- formats

fit_push : (before formats : List Format) (it : Format) → FormatsFit before formats → FormatFits (before ++ formats) it → FormatsFit before (formats ++ it ∷ [])
fit_push before [] it are fits = (subst (λ (l : List Format). FormatFits l it) (append-nil before) fits, tt)
fit_push before (f ∷ formats) it (here, more) fits = (here, fit_push (before ++ f ∷ []) formats it more (subst (λ (l : List Format). FormatFits l it) (sym (append_assoc before (f ∷ []) formats)) fits))

pub formats_fit : (xs kept : List Placed) (left : List LeftOut) → Sifted TakesFormat LeavesFormat xs kept left → FormatsFit [] (formats_of kept)
formats_fit xs kept left none = tt
formats_fit xs kept left (taken {xs = ys} {rows = before} {left = ls} {x = x} {row = row} sifted takes) =
    let fits = subst (λ (it : Placed). FormatFits (formats_of before) (format_of it.format)) (sym takes.same) takes.fits in
    subst (λ (l : List Format). FormatsFit [] l) (sym (formats_push before row)) (fit_push [] (formats_of before) (format_of row.format) (formats_fit ys before ls sifted) fits)
formats_fit xs kept left (left_out {xs = ys} {rows = before} {left = ls} {x = x} {it = it} sifted leaves) = formats_fit ys before ls sifted

abbrev only_formats : List Format → Contents
only_formats formats = record { formats = formats; extensions = []; priorities = []; signatures = [] }

pub formats_registry : (xs kept : List Placed) (left : List LeftOut) → Sifted TakesFormat LeavesFormat xs kept left → IsRegistry (only_formats (formats_of kept))
formats_registry xs kept left none = record { few = omega arith; named = tt; distinct = λ k format there. absurd cc; extensions = tt; priorities = tt; signatures = tt }
formats_registry xs kept left (taken {xs = ys} {rows = before} {left = ls} {x = x} {row = row} sifted takes) =
    let fits = subst (λ (it : Placed). FormatFits (formats_of before) (format_of it.format)) (sym takes.same) takes.fits in
    subst (λ (l : List Format). IsRegistry (only_formats l)) (sym (formats_push before row)) (rules_format (only_formats (formats_of before)) (format_of row.format) (formats_registry ys before ls sifted) fits.room fits.named fits.fresh)
formats_registry xs kept left (left_out {xs = ys} {rows = before} {left = ls} {x = x} {it = it} sifted leaves) = formats_registry ys before ls sifted

format_there : (kept : List Placed) (k : ℕ) (it : Placed) → slice_get kept k ≡ Some it → slice_get (formats_of kept) k ≡ Some (format_of it.format)
format_there [] k it there = absurd cc
format_there (x ∷ kept) zero it there = let same : x ≡ it = cc in ap (λ (y : Placed). Some (format_of y.format)) same
format_there (x ∷ kept) (suc k) it there = format_there kept k it there

-- ---- the places of formats

pub record IsAt (kept : List Placed) (k : ℕ) (it : Placed) : Type 0 where
  pub named : is_puid (puid_in it.format) ≡ true
  pub placed : place_of (puid_in it.format) (formats_of kept) ≡ Some k

pub is_at : (kept : List Placed) (k : ℕ) (it : Placed) → IsRegistry (only_formats (formats_of kept)) → slice_get kept k ≡ Some it → IsAt kept k it
is_at kept k it rules there =
    let at = format_there kept k it there in
    record { named = at_place (λ (f : Format). IsTrue (is_puid f.puid)) (formats_of kept) k (format_of it.format) rules.named at; placed = rules.distinct k (format_of it.format) at }

-- an item stands at the place that it says
pub placed_at : {Y : Type 0} (place_in : Y → ℕ) (of_in : Y → Placed) (f : ℕ → Placed → List Y) → ((place : ℕ) (it : Placed) (y : Y) → Among y (f place it) → (place_in y ≡ place) × (of_in y ≡ it))
    → (kept : List Placed) (y : Y) → Among y (by_place f 0 kept) → slice_get kept (place_in y) ≡ Some (of_in y)
placed_at place_in of_in f says kept y among =
    let (i, place, it, at, there, is) = by_place_parts f 0 kept y among in
    let (here, of) = says place it y is in
    let first : i ≡ place_in y = omega arith in
    subst (λ k. slice_get kept k ≡ Some (of_in y)) first (there ∙ ap Some (sym of))

pub extension_at : (kept : List Placed) (x : Extension) → Among x (all_extensions kept) → slice_get kept x.place ≡ Some x.of
extension_at kept x among = placed_at (λ (y : Extension). y.place) (λ (y : Extension). y.of) (λ place it. extensions_of place it it.format.extensions)
    (λ place it y is. let (at, text, in_list, same) = singles_parts (λ at text. record { place = place; of = it; at = at; text = text }) 0 it.format.extensions y is in (sym (ap (λ (z : Extension). z.place) same), sym (ap (λ (z : Extension). z.of) same))) kept x among

pub priority_at : (kept : List Placed) (x : Priority) → Among x (all_priorities kept) → slice_get kept x.place ≡ Some x.of
priority_at kept x among = placed_at (λ (y : Priority). y.place) (λ (y : Priority). y.of) (λ place it. priorities_of place it it.format.priorities)
    (λ place it y is. let (at, id, in_list, same) = singles_parts (λ at id. record { place = place; of = it; id = id }) 0 it.format.priorities y is in (sym (ap (λ (z : Priority). z.place) same), sym (ap (λ (z : Priority). z.of) same))) kept x among

pub signature_at : (kept : List Placed) (x : Named) → Among x (all_signatures kept) → slice_get kept x.place ≡ Some x.of
signature_at kept x among = placed_at (λ (y : Named). y.place) (λ (y : Named). y.of) (λ place it. signatures_of place it it.format.signatures)
    (λ place it y is. let (at, id, in_list, same) = singles_parts (λ at id. record { place = place; of = it; id = id }) 0 it.format.signatures y is in (sym (ap (λ (z : Named). z.place) same), sym (ap (λ (z : Named). z.of) same))) kept x among

-- ---- signatures

one_fits : {X : Type 0} (P : X → Type 0) (xs : List X) (i : ℕ) → AllByRecursion P xs → AllByRecursion P (take 1 (drop i xs))
one_fits P [] zero all = tt
one_fits P [] (suc i) all = tt
one_fits P (x ∷ xs) zero (here, more) = (here, tt)
one_fits P (x ∷ xs) (suc i) (here, more) = one_fits P xs i more

all_append : {X : Type 0} (P : X → Type 0) (xs ys : List X) → AllByRecursion P xs → AllByRecursion P ys → AllByRecursion P (xs ++ ys)
all_append P [] ys all more = more
all_append P (x ∷ xs) ys (here, all) more = (here, all_append P xs ys all more)

combination_fits : (sequences : List ByteSequenceRecord) (lists : List (List SequenceRow)) (number : ℕ) → AreRowsFor sequences lists → AllByRecursion SequenceFits (combination lists number)
combination_fits [] [] number are = tt
combination_fits [] (rows ∷ lists) number are = absurd are
combination_fits (sequence ∷ sequences) [] number are = absurd are
combination_fits (sequence ∷ sequences) (rows ∷ lists) number (here, more) =
    all_append SequenceFits (take 1 (drop (number / ways_of lists) rows)) (combination lists (number % ways_of lists)) (one_fits SequenceFits rows (number / ways_of lists) here.fit) (combination_fits sequences lists (number % ways_of lists) more)

rows_fit : (formats : List Format) (sequences : List ByteSequenceRecord) (place : ℕ) (puid : List ℕ) (lists : List (List SequenceRow)) (count : ℕ) → is_puid puid ≡ true → place_of puid formats ≡ Some place → AreRowsFor sequences lists → 0 < length lists
    → count ≤ ways_of lists → AllByRecursion (SignatureFits formats) (rows_below place puid lists count)
rows_fit formats sequences place puid lists zero named there stand some few = tt
rows_fit formats sequences place puid lists (suc number) named there stand some few =
    let long = combination_length lists number (omega arith) in
    all_push (SignatureFits formats) (rows_below place puid lists number) (record { place = place; puid = puid; sequences = combination lists number })
    (rows_fit formats sequences place puid lists number named there stand some (omega arith))
    (record { named = named; placed = there; some = omega arith; each = combination_fits sequences lists number stand })

flat_all : (P : SignatureRow → Type 0) (lists : List (List SignatureRow)) → AllByRecursion (AllByRecursion P) lists → AllByRecursion P (flat lists)
flat_all P [] all = tt
flat_all P (rows ∷ lists) (here, more) = all_append P rows (flat lists) here (flat_all P lists more)

count_append : (xs ys : List SignatureRow) → sequence_count (xs ++ ys) ≡ sequence_count xs + sequence_count ys
count_append [] ys = omega arith
count_append (x ∷ xs) ys = let more = count_append xs ys in omega arith

-- few signatures and byte sequences
record AreFew (rows : List SignatureRow) : Type 0 where
  pub signatures : length rows ≤ 16384
  pub sequences : sequence_count rows ≤ 32768

signatures_few : (signatures : List SignatureRecord) (xs : List Named) (rows : List (List SignatureRow)) (left : List LeftOut) → Sifted (TakesSignature signatures) (LeavesSignature signatures) xs rows left → AreFew (flat rows)
signatures_few signatures xs rows left none = record { signatures = omega arith; sequences = omega arith }
signatures_few signatures xs rows left (taken {xs = ys} {rows = before} {left = ls} {x = x} {row = row} sifted takes) =
    let grown = flat_push before row in
    let puid = puid_in x.of.format in
    let one : length row ≡ ways_of takes.lists = ap length takes.same ∙ rows_length x.place puid takes.lists (ways_of takes.lists) in
    let several : sequence_count row ≡ ways_of takes.lists * length takes.lists = ap sequence_count takes.same ∙ rows_sequences x.place puid takes.lists (ways_of takes.lists) (omega arith) in
    let longer : length (flat (before ++ row ∷ [])) ≡ length (flat before) + length row = ap length grown ∙ length-append (flat before) row in
    let more : sequence_count (flat (before ++ row ∷ [])) ≡ sequence_count (flat before) + sequence_count row = ap sequence_count grown ∙ count_append (flat before) row in
    let few = takes.few_signatures in
    let fewer = takes.few_sequences in
    record { signatures = omega arith; sequences = omega arith }
signatures_few signatures xs rows left (left_out {xs = ys} {rows = before} {left = ls} {x = x} {it = it} sifted leaves) = signatures_few signatures ys before ls sifted

-- ---- all tables

pub are_tables : (file : FileRecord) (parts : Parts file) → AreTables (tables_of parts)
are_tables file parts =
    let kept = parts.kept in
    let formats = formats_of kept in
    let rules = formats_registry (placed file.formats) kept parts.left_formats parts.formats_sifted in
    let few = signatures_few file.signatures (all_signatures kept) parts.signatures parts.left_signatures parts.signatures_sifted in
    record {
      formats = formats_fit (placed file.formats) kept parts.left_formats parts.formats_sifted;
      extensions = sifted_rows TakesExtension LeavesExtension (ExtensionFits formats) (all_extensions kept) parts.extensions parts.left_extensions parts.extensions_sifted
          (λ before x row among takes.
          let at = is_at kept x.place x.of rules (extension_at kept x among) in
          subst (ExtensionFits formats) (sym takes.same) (record { named = at.named; placed = at.placed; valid = takes.valid; readable = takes.readable }));
      few_extensions = sifted_few TakesExtension LeavesExtension 16384 (all_extensions kept) parts.extensions parts.left_extensions parts.extensions_sifted (λ before x row takes. takes.room);
      priorities = sifted_rows (TakesPriority kept) (LeavesPriority kept) (PriorityFits formats) (all_priorities kept) parts.priorities parts.left_priorities parts.priorities_sifted
          (λ before x row among takes.
          let at = is_at kept x.place x.of rules (priority_at kept x among) in
          let over = is_at kept takes.over takes.other rules takes.is.there in
          subst (PriorityFits formats) (sym takes.same) (record { named = at.named; placed = at.placed; named_other = over.named; placed_other = over.placed; differ = takes.differ }));
      few_priorities = sifted_few (TakesPriority kept) (LeavesPriority kept) 16384 (all_priorities kept) parts.priorities parts.left_priorities parts.priorities_sifted (λ before x row takes. takes.room);
      signatures = flat_all (SignatureFits formats) parts.signatures
          (sifted_rows (TakesSignature file.signatures) (LeavesSignature file.signatures) (AllByRecursion (SignatureFits formats)) (all_signatures kept) parts.signatures parts.left_signatures parts.signatures_sifted
          (λ before x row among takes.
          let at = is_at kept x.place x.of rules (signature_at kept x among) in
          subst (AllByRecursion (SignatureFits formats)) (sym takes.same)
          (rows_fit formats takes.signature.sequences x.place (puid_in x.of.format) takes.lists (ways_of takes.lists) at.named at.placed takes.stand takes.some (omega arith))));
      few_signatures = few.signatures;
      few_sequences = few.sequences;
    }
