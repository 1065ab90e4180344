use Rattle.std.proofs.Common.{sym, ap, ◌∙◌, arith}
use Rattle.std.specs.Str.{bytes_eq}
use Rattle.droid_xml.specs.Attributes.{Setting}
use Rattle.droid_xml.specs.Views.{setting}
use Rattle.droid_xml.specs.declared.attributes.Attribute.{Attribute}
use Rattle.droid_xml.proofs.Settings.{any_goes_on, any_found}
use Rattle.droid_xml.proofs.attributes.has_name.Goals as goal

pub returns-then-eq : goal.returns-then-eq
returns-then-eq c =
    any_found (λ (other : Setting). bytes_eq c.args.name.now other.name) c.args.attributes.now c.loop-attribute.attribute-index c.attribute-item.result _ (omega arith)
    (ap (λ (a : Attribute). bytes_eq c.args.name.now (setting a).name) (sym c.attribute-item.is) ∙ (sym c.eq.ensures ∙ c.if-eq.true)) c.loop-attribute.invariant

pub loop-attribute-preserved : goal.loop-attribute-preserved
loop-attribute-preserved c =
    any_goes_on (λ (other : Setting). bytes_eq c.args.name.now other.name) c.args.attributes.now c.loop-attribute.attribute-index c.attribute-item.result _ (omega arith)
    (ap (λ (a : Attribute). bytes_eq c.args.name.now (setting a).name) (sym c.attribute-item.is) ∙ (sym c.eq.ensures ∙ c.if-eq.false)) c.loop-attribute.invariant
