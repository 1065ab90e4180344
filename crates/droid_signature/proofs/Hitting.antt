-- The registry's signatures hit exactly where the file's does.
use Rattle.std.proofs.Common.{◌≡◌, ◌↔◌, ◌∙◌, ℕ, zero, suc, ◌+◌, ◌*◌, ◌/◌, ◌%◌, ◌<◌, List, [], ◌∷◌, ◌++◌, length, map, take, drop, inl, inr, sym, ap, subst, arith}
use Rattle.std.specs.List.{AllByRecursion}
use Rattle.std.proofs.lemmas.List.{map-append}
use Rattle.std.proofs.lemmas.Nat.{div-mul-add, mod-mul-add}
use Rattle.droid_pronom.specs.Found.{Hits}
use Rattle.droid_pronom.specs.Registry.{AnyOf}
use Rattle.droid_pronom.specs.declared.rows.ByteSequence.{ByteSequence}
use Rattle.droid_signature.specs.RegistryTables.{SequenceRow, sequence_of}
use Rattle.droid_signature_file.specs.Meaning.{SequenceHits}
use Rattle.droid_signature_file.specs.Records.{ByteSequenceRecord}
use Rattle.droid_signature_file.proofs.Choices.{choices_hit}
use Rattle.droid_signature.specs.SignatureRows.{AreRowsFor, RowsFor, combination, ways_of}
use Rattle.droid_signature.proofs.Counting.{quotient_below, remainder_below}

-- the bytes of a file, and a scan limit
module _ (bytes : List ℕ) (limit : ℕ) where
  -- a row that hits, among all
  any_at : (rows : List SequenceRow) (i : ℕ) (more : List ByteSequence) → i < length rows → AllByRecursion (Hits bytes limit) (map sequence_of (take 1 (drop i rows)) ++ more)
      → AnyOf (Hits bytes limit) (map sequence_of rows) × AllByRecursion (Hits bytes limit) more
  any_at [] i more below all = absurd (omega arith)
  any_at (row ∷ rows) zero more below (here, all) = (inl here, all)
  any_at (row ∷ rows) (suc i) more below all = let (any, rest) = any_at rows i more (omega arith) all in (inr any, rest)

  found_at : (rows : List SequenceRow) → AnyOf (Hits bytes limit) (map sequence_of rows)
      → (i : ℕ) × (i < length rows) × ((more : List ByteSequence) → AllByRecursion (Hits bytes limit) more → AllByRecursion (Hits bytes limit) (map sequence_of (take 1 (drop i rows)) ++ more))
  found_at [] any = absurd any
  found_at (row ∷ rows) (inl here) = (0, omega arith, λ more all. (here, all))
  found_at (row ∷ rows) (inr any) = let (i, below, holds) = found_at rows any in (suc i, omega arith, holds)

  rows_hit : (sequence : ByteSequenceRecord) (rows : List SequenceRow) → RowsFor sequence rows → AnyOf (Hits bytes limit) (map sequence_of rows) ↔ SequenceHits bytes limit sequence
  rows_hit sequence rows are =
      let law = choices_hit sequence are.offsets are.patterns bytes limit are.stand in
      (λ any. law.0 (subst (λ (l : List ByteSequence). AnyOf (Hits bytes limit) l) are.same any), λ hits. subst (λ (l : List ByteSequence). AnyOf (Hits bytes limit) l) (sym are.same) (law.1 hits))

  pub sound_at : (sequences : List ByteSequenceRecord) (lists : List (List SequenceRow)) (number : ℕ) → AreRowsFor sequences lists → number < ways_of lists
      → AllByRecursion (Hits bytes limit) (map sequence_of (combination lists number)) → AllByRecursion (SequenceHits bytes limit) sequences
  sound_at [] [] number are below all = tt
  sound_at [] (rows ∷ lists) number are below all = absurd are
  sound_at (sequence ∷ sequences) [] number are below all = absurd are
  sound_at (sequence ∷ sequences) (rows ∷ lists) number (here, more) below all =
      let i = number / ways_of lists in
      let rest = combination lists (number % ways_of lists) in
      let (any, others) = any_at rows i (map sequence_of rest) (quotient_below (length rows) (ways_of lists) number below) (subst (λ (l : List ByteSequence). AllByRecursion (Hits bytes limit) l) (map-append sequence_of (take 1 (drop i rows)) rest) all) in
      ((rows_hit sequence rows here).0 any, sound_at sequences lists (number % ways_of lists) more (remainder_below (length rows) (ways_of lists) number below) others)

  -- a way in which all hit
  pub record Way (lists : List (List SequenceRow)) : Type 0 where
    pub number : ℕ
    pub below : number < ways_of lists
    pub hits : AllByRecursion (Hits bytes limit) (map sequence_of (combination lists number))

  product_below : (i a b j : ℕ) → i < a → j < b → i * b + j < a * b
  product_below i zero b j below less = absurd (omega arith)
  product_below zero (suc a) b j below less = let product : suc a * b ≡ a * b + b = omega arith in omega arith
  product_below (suc i) (suc a) b j below less =
      let smaller = product_below i a b j (omega arith) less in
      let left : suc i * b ≡ i * b + b = omega arith in
      let right : suc a * b ≡ a * b + b = omega arith in
      omega arith

  pub complete_at : (sequences : List ByteSequenceRecord) (lists : List (List SequenceRow)) → AreRowsFor sequences lists → AllByRecursion (SequenceHits bytes limit) sequences → Way lists
  complete_at [] [] are all = record { number = 0; below = omega arith; hits = tt }
  complete_at [] (rows ∷ lists) are all = absurd are
  complete_at (sequence ∷ sequences) [] are all = absurd are
  complete_at (sequence ∷ sequences) (rows ∷ lists) (here, more) (hits, others) =
      let (i, below, holds) = found_at rows ((rows_hit sequence rows here).1 hits) in
      let rest = complete_at sequences lists more others in
      let w = ways_of lists in
      let number = i * w + rest.number in
      let first : number / w ≡ i = div-mul-add i w rest.number rest.below in
      let second : number % w ≡ rest.number = mod-mul-add i w rest.number rest.below in
      record {
        number = number;
        below = product_below i (length rows) w rest.number below rest.below;
        hits =
            subst (λ (l : List ByteSequence). AllByRecursion (Hits bytes limit) l)
            (sym (ap (λ k. map sequence_of (take 1 (drop k rows) ++ combination lists (number % w))) first ∙ ap (λ k. map sequence_of (take 1 (drop i rows) ++ combination lists k)) second ∙ map-append sequence_of (take 1 (drop i rows)) (combination lists rest.number)))
            (holds (map sequence_of (combination lists rest.number)) rest.hits);
      }
