use Rattle.std.proofs.Common.{◌∙◌, ◌++◌, ◌∷◌, [], ℕ, List, map, take, sym, ap, arith}
use Rattle.std.proofs.lemmas.List.{map_more}
use Rattle.csv.specs.Records.{fields_of}
use Rattle.droid_export.specs.Headers.{cell}
use Rattle.droid_export.specs.Table.{columns}
use Rattle.droid_export.proofs.header.Header.widen.Goals as goal

pub loop-column-preserved : goal.loop-column-preserved
loop-column-preserved c =
    let inv = c.loop-column.invariant in
    let cells = cell c.args.self.now (fields_of c.args.row.now) in
    let field = c.cell.result.now in (
      c.in_ok-push_field.ensures.partial,
      c.in_ok-push_field.ensures.fields
          ∙ (ap (λ (front : List ℕ). fields_of c.loop-column.wide ++ (front ++ field) ∷ []) inv.0
          ∙ (ap (λ (fields : List (List ℕ)). fields ++ field ∷ []) inv.1
          ∙ (ap (λ (last : List ℕ). map cells (take c.loop-column.column-index columns) ++ last ∷ []) c.cell.ensures
          ∙ sym (map_more cells columns c.loop-column.column-index _ (omega (arith, c.loop-column-test.true)))))),
    )
