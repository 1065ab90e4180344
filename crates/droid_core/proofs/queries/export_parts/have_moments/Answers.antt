use Rattle.std.proofs.Common.{◌≡◌, List, arith, sym, subst, true, false, rules, ◌∙◌}
use Rattle.std.proofs.lemmas.List.{drop_all}
use Rattle.std.proofs.lemmas.Int.{to_z-of_z}
use Rattle.std.specs.Int.{w64}
use Rattle.droid_export.specs.Moments.{IsMoment}
use Rattle.droid_export.specs.Text.{HaveMoments}
use Rattle.droid_frame.specs.declared.record.Record.{Record}
use Rattle.droid_core_spec.specs.Conditions.{is_moment}
use Rattle.droid_core.proofs.ExportedParts.{moment_written, moment_in_range, each_at, all_with}
use Rattle.droid_core.proofs.queries.export_parts.have_moments.Goals as goal

pub loop-node-preserved : goal.loop-node-preserved
loop-node-preserved c =
    let node = c.node-item.result in
    let may : is_moment node.modified ≡ true = rw (to_z-of_z w64 node.modified (search rules)) at (sym (c.if-not-is_moment.ensures)) in
    let here : IsMoment node.modified = moment_written node.modified may in
    λ later. c.loop-node.invariant
    (all_with (λ (one : Record). IsMoment one.modified) c.args.records.now c.loop-node.node-index node c.loop-node-test.true c.node-item.is here later)

pub returns-then-not-is_moment-clause-none : goal.returns-then-not-is_moment-clause-none
returns-then-not-is_moment-clause-none c = λ all.
    let node = c.node-item.result in
    let isnt : is_moment node.modified ≡ false = rw (to_z-of_z w64 node.modified (search rules)) at (sym (c.if-not-is_moment.ensures)) in
    let here : IsMoment node.modified = each_at (λ (one : Record). IsMoment one.modified) c.args.records.now c.loop-node.node-index node c.loop-node-test.true c.node-item.is all in
    absurd (let both : false ≡ true = sym isnt ∙ moment_in_range node.modified here in cc)

pub returns-clause-all : goal.returns-clause-all
returns-clause-all c = λ all. c.loop-node.invariant
    (subst (λ (nodes : List Record). HaveMoments nodes) (sym (drop_all c.loop-node.node-index c.args.records.now (omega arith))) tt)
