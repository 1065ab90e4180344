-- The attribute that has the name, one that has another, and none.
use Rattle.std.proofs.Common.{Some, sym, ap, ◌∙◌, arith}
use Rattle.std.proofs.lemmas.List.{drop_all}
use Rattle.std.specs.Str.{bytes_eq}
use Rattle.droid_xml.specs.Views.{setting}
use Rattle.droid_xml.specs.declared.attributes.Attribute.{Attribute}
use Rattle.droid_signature_file.proofs.Loops.{value_found, value_goes_on, value_nowhere}
use Rattle.droid_signature_file.proofs.node.value_of.Goals as goal

pub returns-then-eq : goal.returns-then-eq
returns-then-eq c =
    let found = value_found c.args.name.now c.args.attributes.now c.loop-attribute.attribute-index c.attribute-item.result _ (omega arith)
    (ap (λ (a : Attribute). bytes_eq (setting a).name c.args.name.now) (sym c.attribute-item.is) ∙ (sym c.eq.ensures ∙ c.if-eq.true)) c.loop-attribute.invariant in
    ap Some (c.as_str.ensures.value ∙ ap (λ (a : Attribute). (setting a).value) c.attribute-item.is) ∙ found

pub loop-attribute-preserved : goal.loop-attribute-preserved
loop-attribute-preserved c =
    value_goes_on c.args.name.now c.args.attributes.now c.loop-attribute.attribute-index c.attribute-item.result _ (omega arith)
    (ap (λ (a : Attribute). bytes_eq (setting a).name c.args.name.now) (sym c.attribute-item.is) ∙ (sym c.eq.ensures ∙ c.if-eq.false)) c.loop-attribute.invariant

pub returns : goal.returns
returns c =
    value_nowhere c.args.name.now c.args.attributes.now c.loop-attribute.attribute-index _ (drop_all c.loop-attribute.attribute-index c.args.attributes.now (omega arith)) c.loop-attribute.invariant
