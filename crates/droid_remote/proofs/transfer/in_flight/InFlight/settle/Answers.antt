use Rattle.std.proofs.Common.{◌≡◌, ℕ, List, Contains, drop, take, length, refl, ap, subst, ◌∙◌, length-drop, arith}
use Rattle.std.proofs.lemmas.List.{drop-drop}
use Rattle.std.proofs.lemmas.Result.{err_from_is_err_and}
use Rattle.droid_frame.specs.declared.frame.Frame.{Frame}
use Rattle.droid_remote.specs.Calls.{Settles}
use Rattle.droid_remote.specs.Events.{facts_after}
use Rattle.droid_remote.proofs.Counting.{in_rest}
use Rattle.droid_remote.proofs.Waiting.{fails_on, next_in, settles_more, settles_none}
use Rattle.droid_remote.proofs.transfer.in_flight.InFlight.settle.Goals as goal

pub loop-init : goal.loop-init
loop-init g c = record { settles = λ known facts on. settles_none g.C.Connection.does known facts _ on; left = refl }

pub settle_first-requires : goal.settle_first-requires
settle_first-requires g c = omega (arith, ap (λ (l : List Frame). length l) c.loop.invariant.left, length-drop c.loop.counter c.args.self.now.waiting.items, c.requires)

pub loop-preserved : goal.loop-preserved
loop-preserved g c = record {
  settles = λ known facts on.
      let settles = c.loop.invariant.settles known facts on in
      settles_more g.C.Connection.does known c.loop.counter facts _ _ _ settles c.loop.invariant.left (c.in_ok-settle_first.ensures.settled known (facts_after facts settles.goes.events) settles.stands_on);
  left = c.in_ok-settle_first.ensures.left ∙ (ap (λ (l : List Frame). drop 1 l) c.loop.invariant.left ∙ drop-drop 1 c.loop.counter c.args.self.now.waiting.items);
}

pub returns-in_err-settle_first-clause-failed : goal.returns-in_err-settle_first-clause-failed
returns-in_err-settle_first-clause-failed g c =
    let passed = err_from_is_err_and c.from_residual.result c.from_residual.ensures.1 in
    let waiting = c.args.self.now.waiting.items in
    let now = c.loop.self.waiting.items in
    let left = c.loop.invariant.left in
    rw (passed.1, passed.2)
    (λ known facts on. let settles = c.loop.invariant.settles known facts on in
    fails_on g.C.Connection.does known (Contains now) (Contains waiting) (take 1 now) (take c.args.count waiting) _ facts _ _ _ settles.goes
    (λ frame there. in_rest c.loop.counter waiting frame (subst (λ (l : List Frame). Contains l frame) left there))
    (λ frame there. next_in c.loop.counter c.args.count waiting (omega arith) frame (subst (λ (l : List Frame). Contains (take 1 l) frame) left there))
    (c.in_err-settle_first.ensures.failed known (facts_after facts settles.goes.events) settles.stands_on))

pub returns-clause-settled : goal.returns-clause-settled
returns-clause-settled g c = λ known facts on.
    let all : c.loop.counter ≡ c.args.count = omega arith in
    subst (λ (n : ℕ). Settles g.C.Connection.does known (take n c.args.self.now.waiting.items) facts c.args.self.now c.loop.self) all (c.loop.invariant.settles known facts on)
