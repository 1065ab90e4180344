use Rattle.std.proofs.Common.{◌≡◌, List, [], ◌∷◌, ◌++◌, map, map-id, sym, ap, ◌∙◌}
use Rattle.std.proofs.lemmas.Iterator.Adapters.{YieldsList-from_vec}
use Rattle.std.proofs.lemmas.Iterator.Consumers.{YieldsList-end}
use Rattle.std.proofs.lemmas.List.{map-append}
use Rattle.droid_lists.specs.declared.known.Known.{Known}
use Rattle.droid_cmd_submit.specs.KnownNodes.{known_of_node}
use Rattle.droid_cmd_submit.proofs.known_nodes.known_of_nodes.Goals as goal

pub loop-node-preserved : goal.loop-node-preserved
loop-node-preserved c =
    c.in_ok-add_known.ensures
    ∙ (ap (λ (l : List Known). l ++ known_of_node c.in-Some.node ∷ []) c.loop-node.invariant ∙ sym (map-append known_of_node c.loop-node.yielded (c.in-Some.node ∷ [])))

pub returns : goal.returns
returns c =
    let g = c.into_iter-node-iterator.ensures.into_iter_gives in
    let end = YieldsList-end (YieldsList-from_vec {s = c.into_iter-node-iterator.result} c.args.nodes.items g.0 (g.1 ∙ c.args.nodes.ok.0)) c.loop-node.yielded _ c.loop-node.yielded_by c.next.result c.next.new.self c.in-None.is c.next.ensures.steps in
    let yielded : c.loop-node.yielded ≡ c.args.nodes.items = sym (map-id c.loop-node.yielded) ∙ end.0 in
    c.loop-node.invariant ∙ ap (map known_of_node) yielded
