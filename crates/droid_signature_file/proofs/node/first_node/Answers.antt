-- No element, and the first one.
use Rattle.std.proofs.Common.{◌+◌, ◌∷◌, ℕ, List, drop, length, map, refl, sym, ap, ◌∙◌, arith, length-drop}
use Rattle.std.proofs.lemmas.List.{drop-map, take_rest}
use Rattle.droid_xml.specs.Pieces.{Part}
use Rattle.droid_xml.specs.Views.{part, tag}
use Rattle.droid_signature_file.specs.Elements.{len_of, node, nodes_from}
use Rattle.droid_signature_file.proofs.Loops.{no_length}
use Rattle.droid_signature_file.proofs.Nodes.{begins, element_at, first_in, has_tag, none_in, past}
use Rattle.droid_signature_file.proofs.node.first_node.Goals as goal

pub returns-in_err-piece-clause-found : goal.returns-in_err-piece-clause-found
returns-in_err-piece-clause-found c =
    let all = c.args.pieces.now in
    rw c.from_residual.ensures (none_in all (ap (λ (n : ℕ). drop n all) (sym c.start_place-place.ensures.value) ∙ (sym (take_rest all c.start_place-place.result) ∙ no_length _ c.in_err-piece.ensures.cases)))

pub returns-in_err-element-clause-found : goal.returns-in_err-element-clause-found
returns-in_err-element-clause-found c =
    let all = c.args.pieces.now in
    let cut = ap (λ (n : ℕ). drop n all) (sym c.start_place-place.ensures.value) ∙ (sym (take_rest all c.start_place-place.result) ∙ c.in_ok-piece.ensures.cases.0) in
    absurd (has_tag (part c.in_ok-piece.piece.now) (begins all c.in_ok-piece.behind.now c.in_ok-piece.piece.now cut) (sym c.in_err-element.ensures))

pub returns-clause-found : goal.returns-clause-found
returns-clause-found c =
    let all = c.args.pieces.now in
    let piece = c.in_ok-piece.piece.now in
    let behind = c.in_ok-piece.behind.now in
    let element = tag c.in_ok-element.element.now in
    let whole = sym (take_rest all c.start_place-place.result) ∙ c.in_ok-piece.ensures.cases.0 in
    let cut = ap (λ (n : ℕ). drop n all) (sym c.start_place-place.ensures.value) ∙ whole in
    let rest = drop-map part (len_of (part piece) (map part behind)) behind
    ∙ ap (map part) (sym c.len_of-own.ensures.value ∙ sym (past all behind piece c.start_place-place.result c.len_of-own.result (c.start_place-place.result + 1 + c.len_of-own.result) whole (omega arith))) in
    first_in all behind piece cut
    ∙ (element_at (part piece) element (map part behind) (sym c.in_ok-element.ensures)
    ∙ (ap (λ (parts : List Part). node element (map part behind) ∷ nodes_from 0 parts) rest ∙ rw c.inside_of-inside.ensures refl))

pub returns-clause-inside : goal.returns-clause-inside
returns-clause-inside c =
    let all = c.args.pieces.now in
    let cut = sym (take_rest all c.start_place-place.result) ∙ c.in_ok-piece.ensures.cases.0 in
    omega (arith, ap length cut, length-drop c.start_place-place.result all, c.len_of-own.ensures.few)
