-- One more item, and all of them.
use Rattle.std.proofs.Common.{◌++◌, map, ap, ◌∙◌, arith}
use Rattle.std.specs.List.{flat_map}
use Rattle.std.proofs.lemmas.List.{take_all, length-map}
use Rattle.droid_signature_pattern.specs.TermValues.{atom_of}
use Rattle.droid_signature_pattern.specs.Written.{one_text}
use Rattle.droid_signature_pattern.proofs.Exits.{flat_more}
use Rattle.droid_signature_pattern.proofs.term_texts.push_items.Goals as goal

pub loop-item-preserved : goal.loop-item-preserved
loop-item-preserved c = flat_more one_text atom_of c.args.items.now c.loop-item.item-index c.item-item.result _ c.loop-item.text.items _ (omega arith) c.item-item.is c.loop-item.invariant c.in_ok-push_item.ensures

pub returns : goal.returns
returns c =
    let all = take_all c.loop-item.item-index (map atom_of c.args.items.now) (omega (arith, length-map c.args.items.now atom_of)) in
    c.loop-item.invariant ∙ ap (λ l. c.args.text.now.items ++ flat_map one_text l) all
