use Rattle.std.proofs.Common.{◌+◌, List, drop, map, sym, ap, ◌∙◌, arith}
use Rattle.std.proofs.lemmas.List.{drop_all, take_rest}
use Rattle.std.specs.List.{list_any}
use Rattle.std.specs.Str.{bytes_eq}
use Rattle.droid_xml.specs.Attributes.{Setting}
use Rattle.droid_xml.specs.Views.{setting}
use Rattle.droid_xml.specs.declared.attributes.Attribute.{Attribute}
use Rattle.droid_xml.proofs.Settings.{distinct_here, distinct_end}
use Rattle.droid_xml.proofs.attributes.are_distinct.Goals as goal

pub returns-then-has_name : goal.returns-then-has_name
returns-then-has_name c =
    distinct_here c.args.attributes.now c.loop-place.place c.index-attributes-place.result _ _ (omega arith)
    (sym c.if-has_name.true ∙ (c.has_name.ensures
    ∙ (ap (λ (rest : List Attribute). list_any (λ (other : Setting). bytes_eq c.index-attributes-place.result.name.now other.name) (map setting rest)) (take_rest c.args.attributes.now (c.loop-place.place + 1))
    ∙ ap (λ (a : Attribute). list_any (λ (other : Setting). bytes_eq (setting a).name other.name) (map setting (drop (c.loop-place.place + 1) c.args.attributes.now))) c.index-attributes-place.is))) c.loop-place.invariant

pub loop-place-preserved : goal.loop-place-preserved
loop-place-preserved c =
    distinct_here c.args.attributes.now c.loop-place.place c.index-attributes-place.result _ _ (omega arith)
    (sym c.if-has_name.false ∙ (c.has_name.ensures
    ∙ (ap (λ (rest : List Attribute). list_any (λ (other : Setting). bytes_eq c.index-attributes-place.result.name.now other.name) (map setting rest)) (take_rest c.args.attributes.now (c.loop-place.place + 1))
    ∙ ap (λ (a : Attribute). list_any (λ (other : Setting). bytes_eq (setting a).name other.name) (map setting (drop (c.loop-place.place + 1) c.args.attributes.now))) c.index-attributes-place.is))) c.loop-place.invariant

pub returns : goal.returns
returns c = distinct_end c.args.attributes.now c.loop-place.place _ (drop_all c.loop-place.place c.args.attributes.now (omega arith)) c.loop-place.invariant
