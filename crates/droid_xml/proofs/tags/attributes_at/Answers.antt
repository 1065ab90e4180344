use Rattle.std.proofs.Common.{◌-◌, ◌+◌, List, [], ◌∷◌, map, sym, ap, ◌∙◌, arith}
use Rattle.std.proofs.lemmas.List.{map-append}
use Rattle.droid_xml.specs.Attributes.{Setting}
use Rattle.droid_xml.specs.Tags.{attributes_at}
use Rattle.droid_xml.specs.Views.{setting}
use Rattle.droid_xml.proofs.AttributeLoops.{ends_here, one_more_attribute, too_many_here, with_front, wrong_here}
use Rattle.droid_xml.proofs.tags.attributes_at.Goals as goal

pub returns-in-Some : goal.returns-in-Some
returns-in-Some c = ends_here (map setting c.loop.attributes.items) (64 - c.loop.counter) c.loop.rest.now (c.in-Some.end.0, c.in-Some.end.1.now) _ c.loop.invariant (sym c.in-Some.ensures)

pub returns-in-Err : goal.returns-in-Err
returns-in-Err c = wrong_here (map setting c.loop.attributes.items) (64 - c.loop.counter) (64 - (c.loop.counter + 1)) c.loop.rest.now c.in-Err.stop _ (omega arith) c.loop.invariant (sym c.in-None.ensures) c.in-Err.ensures

pub loop-preserved : goal.loop-preserved
loop-preserved c =
    ap (λ (all : List Setting). with_front all (attributes_at (64 - (c.loop.counter + 1)) c.in-Ok.found.1.now)) (ap (map setting) c.in_ok-push.ensures.items ∙ map-append setting c.loop.attributes.items (c.in-Ok.found.0 ∷ []))
    ∙ one_more_attribute (map setting c.loop.attributes.items) (64 - c.loop.counter) (64 - (c.loop.counter + 1)) c.loop.rest.now (setting c.in-Ok.found.0, c.in-Ok.found.1.now) _ (omega arith) c.loop.invariant (sym c.in-None.ensures) c.in-Ok.ensures

pub returns-in-Some-tag_end : goal.returns-in-Some-tag_end
returns-in-Some-tag_end c = ends_here (map setting c.loop.attributes.items) (64 - c.loop.counter) c.loop.rest.now (c.in-Some-tag_end.end.0, c.in-Some-tag_end.end.1.now) _ c.loop.invariant (sym c.in-Some-tag_end.ensures)

pub returns : goal.returns
returns c = too_many_here (map setting c.loop.attributes.items) (64 - c.loop.counter) c.loop.rest.now c.one_more.result _ (omega arith) c.loop.invariant (sym c.in-None-tag_end.ensures) c.one_more.ensures
