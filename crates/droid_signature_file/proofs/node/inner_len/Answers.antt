-- A piece inside, the end tag, and the end of the pieces.
use Rattle.std.proofs.Common.{sym, ap, ◌∙◌, arith}
use Rattle.std.proofs.lemmas.List.{drop_all}
use Rattle.droid_xml.specs.Views.{part}
use Rattle.droid_xml.specs.declared.pieces.Piece.{Piece}
use Rattle.droid_signature_file.specs.Elements.{deeper}
use Rattle.droid_signature_file.proofs.Loops.{deeper_by_one, inner_ends, inner_goes_on, inner_whole}
use Rattle.droid_signature_file.proofs.node.inner_len.Goals as goal

pub deeper-requires : goal.deeper-requires
deeper-requires c = let few = c.loop-place.invariant.1 in omega arith

pub returns-in-None-clause-value : goal.returns-in-None-clause-value
returns-in-None-clause-value c =
    inner_ends c.args.pieces.now c.loop-place.place c.index-pieces-place.result c.loop-place.depth _ (omega arith)
    (ap (λ (p : Piece). deeper c.loop-place.depth (part p)) (sym c.index-pieces-place.is) ∙ sym c.in-None.ensures) c.loop-place.invariant.0

pub loop-place-preserved : goal.loop-place-preserved
loop-place-preserved c =
    let is = ap (λ (p : Piece). deeper c.loop-place.depth (part p)) (sym c.index-pieces-place.is) ∙ sym c.in-Some.ensures in
    let one = deeper_by_one c.loop-place.depth _ c.in-Some.next is in
    let few = c.loop-place.invariant.1 in
    (inner_goes_on c.args.pieces.now c.loop-place.place c.index-pieces-place.result c.loop-place.depth c.in-Some.next _ (omega arith) is c.loop-place.invariant.0, omega (arith, one, few))

pub returns-clause-value : goal.returns-clause-value
returns-clause-value c =
    let whole = inner_whole c.args.pieces.now c.loop-place.place c.loop-place.depth _ (drop_all c.loop-place.place c.args.pieces.now (omega arith)) c.loop-place.invariant.0 in
    omega (arith, whole)
