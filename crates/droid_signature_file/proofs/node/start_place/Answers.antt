-- A piece that begins an element, one that begins none, and none.
use Rattle.std.proofs.Common.{map, sym, ap, ◌∙◌, arith}
use Rattle.std.proofs.lemmas.List.{drop_all}
use Rattle.droid_xml.specs.Views.{part}
use Rattle.droid_xml.specs.declared.pieces.Piece.{Piece}
use Rattle.droid_signature_file.specs.Elements.{is_start}
use Rattle.droid_signature_file.proofs.Loops.{cell, found, goes_on, nowhere}
use Rattle.droid_signature_file.proofs.node.start_place.Goals as goal

pub returns-then-is_start-clause-value : goal.returns-then-is_start-clause-value
returns-then-is_start-clause-value c =
    found is_start _ _ _ c.loop-place.place _ (cell part c.args.pieces.now c.loop-place.place c.index-pieces-place.result (omega arith))
    (ap (λ (p : Piece). is_start (part p)) (sym c.index-pieces-place.is) ∙ (sym c.is_start.ensures ∙ c.if-is_start.true)) c.loop-place.invariant

pub loop-place-preserved : goal.loop-place-preserved
loop-place-preserved c =
    goes_on is_start _ _ _ c.loop-place.place _ (cell part c.args.pieces.now c.loop-place.place c.index-pieces-place.result (omega arith))
    (ap (λ (p : Piece). is_start (part p)) (sym c.index-pieces-place.is) ∙ (sym c.is_start.ensures ∙ c.if-is_start.false)) c.loop-place.invariant

pub returns-clause-value : goal.returns-clause-value
returns-clause-value c =
    let whole = nowhere is_start _ c.loop-place.place _ (ap (map part) (drop_all c.loop-place.place c.args.pieces.now (omega arith))) c.loop-place.invariant in
    omega (arith, whole)
