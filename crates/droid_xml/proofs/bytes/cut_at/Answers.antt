use Rattle.std.proofs.Common.{sym, ap, ◌∙◌, arith}
use Rattle.std.proofs.lemmas.List.{drop_all, take_rest}
use Rattle.droid_xml.specs.Bytes.{after}
use Rattle.droid_xml.proofs.Cuts.{cut_found, cut_goes_on, cut_nowhere}
use Rattle.droid_xml.proofs.bytes.cut_at.Goals as goal

pub returns-in-Some : goal.returns-in-Some
returns-in-Some c =
    cut_found c.args.mark.now c.args.text.now c.in-Some.rest.now c.loop-place.place (omega arith)
    (sym (c.in-Some.ensures ∙ ap (after c.args.mark.now) (take_rest c.args.text.now c.loop-place.place))) c.loop-place.invariant

pub loop-place-preserved : goal.loop-place-preserved
loop-place-preserved c =
    cut_goes_on c.args.mark.now c.args.text.now c.loop-place.place (omega arith)
    (sym (c.in-None.ensures ∙ ap (after c.args.mark.now) (take_rest c.args.text.now c.loop-place.place))) c.loop-place.invariant

pub returns : goal.returns
returns c = cut_nowhere c.args.mark.now c.args.text.now c.loop-place.place (drop_all c.loop-place.place c.args.text.now (omega arith)) c.loop-place.invariant
