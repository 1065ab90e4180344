use Rattle.std.proofs.Common.{◌∙◌, ◌++◌, ◌∷◌, [], Bool, List, map, take, sym, ap, arith}
use Rattle.std.proofs.lemmas.List.{length-set, map_more, take_more_set}
use Rattle.csv.specs.Records.{fields_of}
use Rattle.droid_export.specs.Headers.{has_name}
use Rattle.droid_export.specs.Table.{columns}
use Rattle.droid_export.proofs.header.columns_named.Goals as goal

pub loop-place-preserved : goal.loop-place-preserved
loop-place-preserved c =
    let inv = c.loop-place.invariant in
    let named = has_name c.args.hash (fields_of c.args.names.now) in
    let place = c.loop-place.place in (
      length-set _ _ _ ∙ inv.0,
      take_more_set c.loop-place.has place c.has_name.result (omega (arith, inv.0, c.loop-place-test.true))
          ∙ (ap (λ (front : List Bool). front ++ c.has_name.result ∷ []) inv.1
          ∙ (ap (λ (last : Bool). map named (take place columns) ++ last ∷ []) c.has_name.ensures
          ∙ sym (map_more named columns place _ (omega (arith, c.loop-place-test.true))))),
    )
