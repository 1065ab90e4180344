-- No alternative, one more, and all of them.
use Rattle.std.proofs.Common.{◌≡◌, ◌++◌, ◌-◌, ◌∷◌, [], sym, ap, ◌∙◌, arith}
use Rattle.std.proofs.lemmas.List.{append-nil}
use Rattle.std.proofs.lemmas.Result.{on_ok_weaker}
use Rattle.droid_pattern.specs.Cells.{front_number, runs_in, alternatives_in}
use Rattle.droid_pattern.specs.Positions.{IsAt}
use Rattle.droid_pattern.proofs.CellLemmas.{runs_left}
use Rattle.droid_pattern.proofs.StepLemmas.{choice_none, none_inside, choice_more, chain_reaches, chain_inside, at_join, inside_join}
use Rattle.droid_pattern.proofs.step.choice.Goals as goal

pub loop-init : goal.loop-init
loop-init c =
    let packed = c.args.packed.now in
    let count = front_number packed in
    let whole : count - 0 ≡ count = omega arith in
    let first : runs_in (count - 0) c.rest_from-rest.result.now ≡ alternatives_in packed = ap (λ n. runs_in n c.rest_from-rest.result.now) whole ∙ ap (runs_in count) c.rest_from-rest.ensures in
    rw c.new-found.ensures (record {
      sets = c.requires.sets;
      inside = none_inside c.args.bytes.now;
      so_far = ([], first, choice_none c.args.direction c.args.bytes.now (IsAt c.args.direction c.args.bytes.now c.args.bits.now));
    })

pub loop-preserved : goal.loop-preserved
loop-preserved c =
    let run = c.cut_run.result.0.now in
    let bytes = c.args.bytes.now in
    let way = c.args.direction in
    let (done, all, reached) = c.loop.invariant.so_far in
    let chain = rw c.in_ok-set_from.ensures at c.in_ok-follow.ensures.chain in
    record {
      sets = c.follow.ensures.sets;
      inside = inside_join bytes c.loop.found c.follow.new.bits c.join.new.self c.in_ok-join.ensures c.loop.invariant.inside (chain_inside way bytes run _ c.args.bits.now c.follow.new.bits c.requires.inside chain);
      so_far = (
        done ++ run ∷ [],
        rw (c.cut_run.ensures.run, c.cut_run.ensures.after) (runs_left (front_number c.args.packed.now) c.loop.counter done c.loop.rest.now _ (omega arith) all),
        choice_more way done run bytes (IsAt way bytes c.args.bits.now) (IsAt way bytes c.loop.found) (IsAt way bytes c.follow.new.bits) (IsAt way bytes c.join.new.self)
            reached (chain_reaches way bytes run c.args.bits.now c.follow.new.bits chain) (at_join way bytes c.loop.found c.follow.new.bits c.join.new.self c.in_ok-join.ensures),
      );
    }

pub returns-clause-reaches : goal.returns-clause-reaches
returns-clause-reaches c =
    let (done, all, reached) = c.loop.invariant.so_far in
    let none : front_number c.args.packed.now - c.loop.counter ≡ 0 = omega arith in
    let whole : done ≡ alternatives_in c.args.packed.now = sym (append-nil done) ∙ (rw none at all) in
    let last = rw whole at reached in
    on_ok_weaker c.set_from-2.result (λ same. rw same last) c.set_from-2.ensures
