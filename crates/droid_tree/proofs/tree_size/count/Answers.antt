use Rattle.std.proofs.Common.{refl, sym, ◌∙◌, arith}
use Rattle.std.proofs.lemmas.Result.{err_from_is_err_and}
use Rattle.droid_tree.proofs.Tallies.{count_begun, count_more, count_done, count_too_many}
use Rattle.droid_tree.proofs.Runs.{none_left}
use Rattle.droid_tree.proofs.tree_size.count.Goals as goal

pub loop-init : goal.loop-init
loop-init g c = record { counts = count_begun g.T.Tree.observes _ _ _ _ c.in_ok-pending.ensures refl refl refl refl refl; within = omega arith }

pub loop-preserved : goal.loop-preserved
loop-preserved g c = record {
  counts = count_more g.T.Tree.observes _ _ _ _ _ _ _ _ _ c.loop.invariant.counts c.in-Some.ensures.items c.in_ok-counted.ensures.counted;
  within = c.in_ok-see_room.ensures.within;
}

pub returns-in_default-clause-counted : goal.returns-in_default-clause-counted
returns-in_default-clause-counted g c =
    count_done g.T.Tree.observes _ _ _ _ c.loop.invariant.counts (none_left c.loop.pending.items (c.in_default.ensures.items ∙ c.in_default.ensures.rest))

pub returns-in_err-see_room-clause-too_many : goal.returns-in_err-see_room-clause-too_many
returns-in_err-see_room-clause-too_many g c =
    let fault = err_from_is_err_and c.from_residual-in_err-see_room.result c.from_residual-in_err-see_room.ensures.1 in
    let counts = count_more g.T.Tree.observes _ _ _ _ _ _ _ _ _ c.loop.invariant.counts c.in-Some.ensures.items c.in_ok-counted.ensures.counted in
    rw fault.1 (λ is. count_too_many g.T.Tree.observes _ _ _ _ c.args.limit counts (c.in_err-see_room.ensures.too_many (sym fault.2 ∙ is)))
