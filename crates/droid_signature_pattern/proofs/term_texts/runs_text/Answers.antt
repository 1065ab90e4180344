-- One more alternative.
use Rattle.std.proofs.Common.{◌<◌, ◌++◌, [], length, map, sym, ap, ◌∙◌, arith}
use Rattle.std.specs.List.{flat_map}
use Rattle.std.proofs.lemmas.List.{length-map, get_or-map}
use Rattle.droid_signature_pattern.specs.TermValues.{atom_of}
use Rattle.droid_signature_pattern.specs.Items.{items_of}
use Rattle.droid_signature_pattern.specs.Written.{one_text}
use Rattle.droid_signature_pattern.proofs.Runs.{marked_more, next_more}
use Rattle.droid_signature_pattern.proofs.term_texts.runs_text.Goals as goal

pub loop-items-preserved : goal.loop-items-preserved
loop-items-preserved c =
    let all = c.args.alternatives.now in
    let i = c.loop-items.items-index in
    let x = c.items-item.result in
    let below : i < length all = omega arith in
    let there = sym (get_or-map items_of all i x (items_of x) below ∙ ap items_of (sym c.items-item.is)) in (
      marked_more (flat_map one_text) 40 (map items_of all) i (items_of x) [] c.loop-items.text.items c.push.new.self.items _ c.loop-items.mark (omega (arith, length-map all items_of)) there
          c.loop-items.invariant.0 c.loop-items.invariant.1 c.in_ok-push.ensures.items (c.in_ok-push_items.ensures ∙ ap (λ l. c.push.new.self.items ++ flat_map one_text (map atom_of l)) c.as_slice.ensures.value),
      next_more 40 i,
    )
