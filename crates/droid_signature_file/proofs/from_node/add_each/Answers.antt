-- One more element, one that is wrong, and none.
use Rattle.std.proofs.Common.{filter, map, sym, ◌∙◌}
use Rattle.droid_xml.specs.Views.{part}
use Rattle.droid_signature_file.specs.Elements.{is_named, nodes_from}
use Rattle.droid_signature_file.specs.Signatures.{every}
use Rattle.droid_signature_file.proofs.Every.{stops_by}
use Rattle.droid_signature_file.proofs.from_node.add_each.Goals as goal

pub elements-preserved : goal.elements-preserved
elements-preserved g c =
    let later = rw c.in-Ok-Some.field-0-is at c.in-Ok-Some.ensures.later in
    (sym (rw c.in-Ok-Some.field-0-is at c.in-Ok-Some.ensures.added) ∙ c.elements.invariant.0, later.1)

pub returns-in-Ok-None : goal.returns-in-Ok-None
returns-in-Ok-None g c = sym c.elements.invariant.0 ∙ rw c.in-Ok-None.field-0-is at c.in-Ok-None.ensures.added

pub returns-in-Err : goal.returns-in-Err
returns-in-Err g c =
    stops_by c.in-Err.stop c.elements.all.items c.args.all.now.items _ (every g.T.FromNode.says (filter (is_named c.args.name.now) (nodes_from 0 (map part c.args.pieces.now)))) c.elements.invariant.0 c.in-Err.ensures.added
