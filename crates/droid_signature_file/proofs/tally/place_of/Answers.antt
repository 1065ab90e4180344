-- The name, another, and none.
use Rattle.std.proofs.Common.{sym, ap, ◌∙◌, arith}
use Rattle.std.proofs.lemmas.List.{drop_all}
use Rattle.droid_signature_file.specs.Unknown.{is_name}
use Rattle.droid_signature_file.proofs.Loops.{found, goes_on, here, nowhere}
use Rattle.droid_signature_file.proofs.tally.place_of.Goals as goal

pub returns-then-is_name-clause-value : goal.returns-then-is_name-clause-value
returns-then-is_name-clause-value c =
    found (is_name c.args.part c.args.name.now) _ _ _ c.loop-place.place _ (here c.args.names.now c.loop-place.place c.index-names-place.result (omega arith))
    (ap (is_name c.args.part c.args.name.now) (sym c.index-names-place.is) ∙ (sym c.is_name.ensures ∙ c.if-is_name.true)) c.loop-place.invariant

pub loop-place-preserved : goal.loop-place-preserved
loop-place-preserved c =
    goes_on (is_name c.args.part c.args.name.now) _ _ _ c.loop-place.place _ (here c.args.names.now c.loop-place.place c.index-names-place.result (omega arith))
    (ap (is_name c.args.part c.args.name.now) (sym c.index-names-place.is) ∙ (sym c.is_name.ensures ∙ c.if-is_name.false)) c.loop-place.invariant

pub returns-clause-value : goal.returns-clause-value
returns-clause-value c =
    let whole = nowhere (is_name c.args.part c.args.name.now) _ c.loop-place.place _ (drop_all c.loop-place.place c.args.names.now (omega arith)) c.loop-place.invariant in
    omega (arith, whole)
