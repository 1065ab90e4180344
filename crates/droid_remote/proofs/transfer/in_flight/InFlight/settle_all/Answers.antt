use Rattle.std.proofs.Common.{◌≡◌, List, Contains, take, subst, ◌∙◌, arith}
use Rattle.std.specs.List.{AllByRecursion}
use Rattle.std.proofs.lemmas.List.{drop_all, take_all}
use Rattle.std.proofs.lemmas.Result.{err_from_is_err_and}
use Rattle.droid_frame.specs.declared.frame.Frame.{Frame}
use Rattle.droid_remote.specs.Answering.{IsTaken}
use Rattle.droid_remote.proofs.Counting.{in_front}
use Rattle.droid_remote.proofs.Waiting.{fails_in}
use Rattle.droid_remote.proofs.transfer.in_flight.InFlight.settle_all.Goals as goal

pub settle-requires : goal.settle-requires
settle-requires g c = omega (arith, c.len-count.ensures, c.args.self.now.waiting.ok.0)

pub returns-in_err-settle-clause-failed : goal.returns-in_err-settle-clause-failed
returns-in_err-settle-clause-failed g c =
    let passed = err_from_is_err_and c.from_residual.result c.from_residual.ensures.1 in
    let waiting = c.args.self.now.waiting.items in
    rw (passed.1, passed.2)
    (λ known facts on. fails_in g.C.Connection.does known (Contains waiting) (Contains waiting) (take c.len-count.result waiting) waiting _ facts _ _ (λ frame there. there) (in_front c.len-count.result waiting) (c.in_err-settle.ensures.failed known facts on))

pub returns-clause-none : goal.returns-clause-none
returns-clause-none g c =
    let waiting = c.args.self.now.waiting in
    c.in_ok-settle.ensures.left ∙ drop_all c.len-count.result waiting.items (omega (arith, c.len-count.ensures, waiting.ok.0))

pub returns-clause-settled : goal.returns-clause-settled
returns-clause-settled g c = λ known facts on.
    let waiting = c.args.self.now.waiting in
    let settles = c.in_ok-settle.ensures.settled known facts on in
    let whole : take c.len-count.result waiting.items ≡ waiting.items = take_all c.len-count.result waiting.items (omega (arith, c.len-count.ensures, waiting.ok.0)) in
    record {
      none = c.in_ok-settle.ensures.left ∙ drop_all c.len-count.result waiting.items (omega (arith, c.len-count.ensures, waiting.ok.0));
      goes = settles.goes;
      taken = subst (λ (l : List Frame). AllByRecursion (IsTaken known facts settles.goes.events) l) whole settles.taken;
      stands_on = settles.stands_on;
    }
