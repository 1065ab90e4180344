use Rattle.std.proofs.Common.{◌<◌, ℕ, List, length, arith}
use Rattle.std.specs.Borrow.{Bor}
use Rattle.csv.specs.Records.{fields_of}
use Rattle.droid_pronom.proofs.RegistryRows.{field_given, field_is, six}
use Rattle.droid_pronom.proofs.registry.row_text.RowText.of.Goals as goal

pub unwrap-requires : goal.unwrap-requires
unwrap-requires c = let below : 0 < length (fields_of c.args.row.now) = omega (arith, c.requires) in field_given (λ (s : Bor (List ℕ)). s.now) (fields_of c.args.row.now) 0 c.get.result c.get.ensures.value below

pub unwrap-requires-2 : goal.unwrap-requires-2
unwrap-requires-2 c = let below : 1 < length (fields_of c.args.row.now) = omega (arith, c.requires) in field_given (λ (s : Bor (List ℕ)). s.now) (fields_of c.args.row.now) 1 c.get-2.result c.get-2.ensures.value below

pub unwrap-requires-3 : goal.unwrap-requires-3
unwrap-requires-3 c = let below : 2 < length (fields_of c.args.row.now) = omega (arith, c.requires) in field_given (λ (s : Bor (List ℕ)). s.now) (fields_of c.args.row.now) 2 c.get-3.result c.get-3.ensures.value below

pub unwrap-requires-4 : goal.unwrap-requires-4
unwrap-requires-4 c = let below : 3 < length (fields_of c.args.row.now) = omega (arith, c.requires) in field_given (λ (s : Bor (List ℕ)). s.now) (fields_of c.args.row.now) 3 c.get-4.result c.get-4.ensures.value below

pub unwrap-requires-5 : goal.unwrap-requires-5
unwrap-requires-5 c = let below : 4 < length (fields_of c.args.row.now) = omega (arith, c.requires) in field_given (λ (s : Bor (List ℕ)). s.now) (fields_of c.args.row.now) 4 c.get-5.result c.get-5.ensures.value below

pub unwrap-requires-6 : goal.unwrap-requires-6
unwrap-requires-6 c = let below : 5 < length (fields_of c.args.row.now) = omega (arith, c.requires) in field_given (λ (s : Bor (List ℕ)). s.now) (fields_of c.args.row.now) 5 c.get-6.result c.get-6.ensures.value below

pub returns : goal.returns
returns c = six (fields_of c.args.row.now) _ _ _ _ _ _ c.requires
    (field_is (λ (s : Bor (List ℕ)). s.now) (fields_of c.args.row.now) 0 c.get.result c.unwrap.result c.get.ensures.value c.unwrap.ensures)
    (field_is (λ (s : Bor (List ℕ)). s.now) (fields_of c.args.row.now) 1 c.get-2.result c.unwrap-2.result c.get-2.ensures.value c.unwrap-2.ensures)
    (field_is (λ (s : Bor (List ℕ)). s.now) (fields_of c.args.row.now) 2 c.get-3.result c.unwrap-3.result c.get-3.ensures.value c.unwrap-3.ensures)
    (field_is (λ (s : Bor (List ℕ)). s.now) (fields_of c.args.row.now) 3 c.get-4.result c.unwrap-4.result c.get-4.ensures.value c.unwrap-4.ensures)
    (field_is (λ (s : Bor (List ℕ)). s.now) (fields_of c.args.row.now) 4 c.get-5.result c.unwrap-5.result c.get-5.ensures.value c.unwrap-5.ensures)
    (field_is (λ (s : Bor (List ℕ)). s.now) (fields_of c.args.row.now) 5 c.get-6.result c.unwrap-6.result c.get-6.ensures.value c.unwrap-6.ensures)
