use Rattle.std.proofs.Common.{◌∷◌, [], List, Contains, length, sym, ap, subst, arith}
use Rattle.std.proofs.lemmas.List.{nil_from_length}
use Rattle.std.proofs.lemmas.List.Elements.{Contains-append_right}
use Rattle.std.proofs.lemmas.Result.{err_from_is_err_and}
use Rattle.droid_frame.specs.declared.frame.Frame.{Frame}
use Rattle.droid_remote.specs.Events.{facts_after}
use Rattle.droid_remote.proofs.Waiting.{fails_on, tries_none, tries_on}
use Rattle.droid_remote.proofs.transfer.in_flight.InFlight.drain.Goals as goal

pub loop-init : goal.loop-init
loop-init g c = record { tries = λ known facts on. tries_none g.C.Connection.does known facts _ on; within = λ frame there. there; left = omega arith }

pub take-requires : goal.take-requires
take-requires g c = omega (arith, c.loop.invariant.left, c.len-count.ensures, c.args.self.now.waiting.ok.0)

pub loop-preserved : goal.loop-preserved
loop-preserved g c =
    let first = c.in_ok-take.ensures.first in
    record {
      tries = λ known facts on.
          let tries = c.loop.invariant.tries known facts on in
          let takes = c.in_ok-take.ensures.taken known (facts_after facts tries.goes.events) tries.stands_on in
          tries_on g.C.Connection.does known facts _ _ _ tries takes.goes takes.stands_on c.loop.invariant.within;
      within = λ frame there. c.loop.invariant.within frame (subst (λ (l : List Frame). Contains l frame) (sym first) (Contains-append_right (c.in_ok-take.field-0.request ∷ []) c.take.new.self.waiting.items frame there));
      left = omega (arith, c.loop.invariant.left, ap (λ (l : List Frame). length l) first);
    }

pub returns-clause-drained : goal.returns-clause-drained
returns-clause-drained g c = c.loop.invariant.tries

pub returns-clause-none : goal.returns-clause-none
returns-clause-none g c = nil_from_length c.loop.self.waiting.items (omega (arith, c.loop.invariant.left, c.len-count.ensures, c.args.self.now.waiting.ok.0))

pub returns-in_err-take-clause-failed : goal.returns-in_err-take-clause-failed
returns-in_err-take-clause-failed g c =
    let passed = err_from_is_err_and c.from_residual.result c.from_residual.ensures.1 in
    rw (passed.1, passed.2)
    (λ known facts on. let tries = c.loop.invariant.tries known facts on in
    fails_on g.C.Connection.does known (Contains c.loop.self.waiting.items) (Contains c.args.self.now.waiting.items) [] [] _ facts _ _ _ tries.goes c.loop.invariant.within (λ frame there. there)
    (c.in_err-take.ensures.failed known (facts_after facts tries.goes.events) tries.stands_on))
