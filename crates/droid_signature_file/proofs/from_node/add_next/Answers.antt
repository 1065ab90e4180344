-- The first element, one that is wrong, and none.
use Rattle.std.proofs.Common.{◌∷◌, [], List, drop, filter, length, map, take, subst, sym, ap, ◌∙◌, append-nil}
use Rattle.std.specs.Prelude.{◌-◌, Ok}
use Rattle.std.proofs.lemmas.List.{drop-drop, take_rest}
use Rattle.droid_xml.specs.Views.{part}
use Rattle.droid_xml.specs.declared.pieces.Piece.{Piece}
use Rattle.droid_signature_file.specs.Elements.{Node, is_named, nodes_from}
use Rattle.droid_signature_file.specs.Outcomes.{Stops, after, node_of}
use Rattle.droid_signature_file.specs.Signatures.{every}
use Rattle.droid_signature_file.proofs.Every.{first_passes, part_read, stops_front}
use Rattle.droid_signature_file.proofs.from_node.add_next.Goals as goal

pub returns-in-None-clause-added : goal.returns-in-None-clause-added
returns-in-None-clause-added g c =
    ap (λ (pieces : List Piece). after c.args.all.now.items (every g.T.FromNode.says (filter (is_named c.args.name.now) (nodes_from 0 (map part pieces))))) (sym (take_rest c.args.pieces.now c.args.at))
    ∙ (ap (λ (nodes : List Node). after c.args.all.now.items (every g.T.FromNode.says (filter (is_named c.args.name.now) nodes))) c.in-None.ensures.found
    ∙ ap Ok (append-nil c.args.all.now.items))

pub returns-in-Ok-clause-added : goal.returns-in-Ok-clause-added
returns-in-Ok-clause-added g c =
    let says = g.T.FromNode.says in
    let test = is_named c.args.name.now in
    let all = c.args.pieces.now in
    let rest = take (length all - c.args.at) (drop c.args.at all) in
    let one = node_of c.in-Some.one in
    let more = nodes_from 0 (map part (drop c.in-Some.len rest)) in
    ap (λ (pieces : List Piece). after c.args.all.now.items (every says (filter (is_named c.args.name.now) (nodes_from 0 (map part pieces))))) (sym (take_rest all c.args.at))
    ∙ (ap (λ (nodes : List Node). after c.args.all.now.items (every says nodes)) (ap (filter test) c.in-Some.ensures.found ∙ first_passes test one more)
    ∙ (part_read says (filter test (one ∷ [])) (filter test more) c.args.all.now.items c.add_named.new.all.items c.in-Ok.ensures
    ∙ ap (λ (pieces : List Piece). after c.add_named.new.all.items (every says (filter (is_named c.args.name.now) (nodes_from 0 (map part pieces))))) (ap (drop c.in-Some.len) (take_rest all c.args.at) ∙ drop-drop c.in-Some.len c.args.at all)))

pub returns-in-Err-clause-added : goal.returns-in-Err-clause-added
returns-in-Err-clause-added g c =
    let says = g.T.FromNode.says in
    let test = is_named c.args.name.now in
    let all = c.args.pieces.now in
    let rest = take (length all - c.args.at) (drop c.args.at all) in
    let one = node_of c.in-Some.one in
    let more = nodes_from 0 (map part (drop c.in-Some.len rest)) in
    subst (λ (pieces : List Piece). Stops c.in-Err.stop (every says (filter (is_named c.args.name.now) (nodes_from 0 (map part pieces))))) (take_rest all c.args.at)
    (subst (λ (nodes : List Node). Stops c.in-Err.stop (every says nodes)) (sym (ap (filter test) c.in-Some.ensures.found ∙ first_passes test one more))
    (stops_front c.in-Err.stop says (filter test (one ∷ [])) (filter test more) c.in-Err.ensures))
