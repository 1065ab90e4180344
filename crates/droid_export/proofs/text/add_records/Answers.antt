use Rattle.std.proofs.Common.{◌≡◌, ℕ, List, ◌++◌, ◌∙◌, sym, ap, append_assoc, arith}
use Rattle.std.specs.List.{flat_map}
use Rattle.std.proofs.lemmas.List.{take_all}
use Rattle.droid_frame.specs.declared.record.Record.{Record}
use Rattle.droid_export.specs.Text.{chosen_rows, record_text, row_text}
use Rattle.droid_export.proofs.TextConcatenation.{kept, passed_over}
use Rattle.droid_export.proofs.text.add_records.Goals as goal
use Rattle.droid_export.proofs.text.add_records.Goals.{then-chosen+in_ok-add, else-chosen}

pub loop-node-preserved : goal.loop-node-preserved
loop-node-preserved c = elim c.if-chosen.branch [
  | then-chosen+in_ok-add w ↦
      let before = c.args.rows.now in
      let more = kept c.args.registry.now c.args.filter.now c.args.records.now c.loop-node.node-index c.node-item.result (omega arith) c.node-item.is (sym c.in_ok-chosen.ensures ∙ w.if-chosen.true) in
      rw w.rows-is (w.in_ok-add.ensures.added ∙ (ap (λ (l : List ℕ). l ++ record_text c.args.registry.now c.node-item.result) c.loop-node.invariant
      ∙ (append_assoc before _ _ ∙ ap (λ (t : List ℕ). before ++ t) more)))
  | else-chosen w ↦
      let same = passed_over c.args.registry.now c.args.filter.now c.args.records.now c.loop-node.node-index c.node-item.result (omega arith) c.node-item.is (sym c.in_ok-chosen.ensures ∙ w.if-chosen.false) in
      rw w.rows-is (c.loop-node.invariant ∙ ap (λ (t : List ℕ). c.args.rows.now ++ t) same)
]

pub returns : goal.returns
returns c =
    c.loop-node.invariant ∙ ap (λ (nodes : List Record). c.args.rows.now ++ flat_map row_text (chosen_rows c.args.registry.now c.args.filter.now nodes))
    (take_all c.loop-node.node-index c.args.records.now (omega arith))
