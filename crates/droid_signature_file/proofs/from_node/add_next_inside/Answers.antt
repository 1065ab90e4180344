-- The elements in the first one, one that is wrong, and none.
use Rattle.std.proofs.Common.{◌∷◌, [], List, drop, filter, length, map, take, subst, sym, ap, ◌∙◌, append-nil}
use Rattle.std.specs.Prelude.{◌-◌, Ok}
use Rattle.std.proofs.lemmas.List.{drop-drop, take_rest}
use Rattle.std.specs.List.{flat_map}
use Rattle.droid_xml.specs.Views.{part}
use Rattle.droid_xml.specs.declared.pieces.Piece.{Piece}
use Rattle.droid_signature_file.specs.Elements.{Node, inside_named, is_named, nodes_from}
use Rattle.droid_signature_file.specs.Outcomes.{Stops, after, node_of}
use Rattle.droid_signature_file.specs.Signatures.{every}
use Rattle.droid_signature_file.proofs.Every.{first_collected, part_read, stops_front}
use Rattle.droid_signature_file.proofs.from_node.add_next_inside.Goals as goal

pub returns-in-None-clause-added : goal.returns-in-None-clause-added
returns-in-None-clause-added g c =
    ap (λ (pieces : List Piece). after c.args.all.now.items (every g.T.FromNode.says (flat_map (inside_named c.args.name.now) (filter (is_named c.args.collection.now) (nodes_from 0 (map part pieces)))))) (sym (take_rest c.args.pieces.now c.args.at))
    ∙ (ap (λ (nodes : List Node). after c.args.all.now.items (every g.T.FromNode.says (flat_map (inside_named c.args.name.now) (filter (is_named c.args.collection.now) nodes)))) c.in-None.ensures.found
    ∙ ap Ok (append-nil c.args.all.now.items))

pub returns-in-Ok-clause-added : goal.returns-in-Ok-clause-added
returns-in-Ok-clause-added g c =
    let says = g.T.FromNode.says in
    let f = inside_named c.args.name.now in
    let test = is_named c.args.collection.now in
    let all = c.args.pieces.now in
    let rest = take (length all - c.args.at) (drop c.args.at all) in
    let one = node_of c.in-Some.it in
    let more = nodes_from 0 (map part (drop c.in-Some.len rest)) in
    ap (λ (pieces : List Piece). after c.args.all.now.items (every says (flat_map (inside_named c.args.name.now) (filter (is_named c.args.collection.now) (nodes_from 0 (map part pieces)))))) (sym (take_rest all c.args.at))
    ∙ (ap (λ (nodes : List Node). after c.args.all.now.items (every says nodes)) (ap (λ (nodes : List Node). flat_map f (filter test nodes)) c.in-Some.ensures.found ∙ first_collected f test one more)
    ∙ (part_read says (flat_map f (filter test (one ∷ []))) (flat_map f (filter test more)) c.args.all.now.items c.add_inside.new.all.items c.in-Ok.ensures
    ∙ ap (λ (pieces : List Piece). after c.add_inside.new.all.items (every says (flat_map (inside_named c.args.name.now) (filter (is_named c.args.collection.now) (nodes_from 0 (map part pieces)))))) (ap (drop c.in-Some.len) (take_rest all c.args.at) ∙ drop-drop c.in-Some.len c.args.at all)))

pub returns-in-Err-clause-added : goal.returns-in-Err-clause-added
returns-in-Err-clause-added g c =
    let says = g.T.FromNode.says in
    let f = inside_named c.args.name.now in
    let test = is_named c.args.collection.now in
    let all = c.args.pieces.now in
    let rest = take (length all - c.args.at) (drop c.args.at all) in
    let one = node_of c.in-Some.it in
    let more = nodes_from 0 (map part (drop c.in-Some.len rest)) in
    subst (λ (pieces : List Piece). Stops c.in-Err.stop (every says (flat_map (inside_named c.args.name.now) (filter (is_named c.args.collection.now) (nodes_from 0 (map part pieces)))))) (take_rest all c.args.at)
    (subst (λ (nodes : List Node). Stops c.in-Err.stop (every says nodes)) (sym (ap (λ (nodes : List Node). flat_map f (filter test nodes)) c.in-Some.ensures.found ∙ first_collected f test one more))
    (stops_front c.in-Err.stop says (flat_map f (filter test (one ∷ []))) (flat_map f (filter test more)) c.in-Err.ensures))
