-- One more piece, and none.
use Rattle.std.proofs.Common.{◌+◌, ◌++◌, List, map, string_bytes, length, sym, ap, ◌∙◌, arith, append-nil, length-drop}
use Rattle.std.proofs.lemmas.List.{drop_all, take_rest}
use Rattle.droid_xml.specs.Views.{part}
use Rattle.droid_xml.specs.declared.pieces.Piece.{Piece}
use Rattle.droid_signature_file.specs.Elements.{words_from}
use Rattle.droid_signature_file.proofs.Nodes.{words_step}
use Rattle.droid_signature_file.proofs.node.words_of.Goals as goal

pub parts-preserved : goal.parts-preserved
parts-preserved c =
    let all = c.args.pieces.now in
    let rest = take_rest all (c.parts.at + 1) in (
      words_step all _ c.parts.at c.len_of-own.result _ c.index-pieces-at.result (string_bytes c.parts.words) _ _ (omega arith) rest c.index-pieces-at.is c.len_of-own.ensures.value (omega arith)
          c.in_ok-add_word.ensures c.parts.invariant.0,
      omega (arith, c.len_of-own.ensures.few, ap length rest, length-drop (c.parts.at + 1) all),
    )

pub returns : goal.returns
returns c =
    let so_far = string_bytes c.parts.words in
    let all = c.args.pieces.now in
    sym (append-nil so_far) ∙ (ap (λ (rest : List Piece). so_far ++ words_from 0 (map part rest)) (sym (drop_all c.parts.at all (omega arith))) ∙ c.parts.invariant.0)
