use Rattle.std.proofs.Common.{◌≡◌, [], Contains, take, inl, inr, arith}
use Rattle.std.proofs.lemmas.Result.{err_from_is_err_and}
use Rattle.droid_remote.specs.Calls.{IsAmong}
use Rattle.droid_remote.specs.Events.{facts_after}
use Rattle.droid_remote.proofs.Counting.{in_front, none_in}
use Rattle.droid_remote.proofs.Going.{goes_in}
use Rattle.droid_remote.proofs.Waiting.{fails_in, fails_on, sends_on}
use Rattle.droid_remote.proofs.transfer.in_flight.InFlight.send.Goals as goal

pub settle-requires : goal.settle-requires
settle-requires g c = omega (arith, c.saturating_sub-count.ensures, c.len.ensures, c.args.self.now.waiting.ok.0)

pub returns-in_err-settle-clause-failed : goal.returns-in_err-settle-clause-failed
returns-in_err-settle-clause-failed g c =
    let passed = err_from_is_err_and c.from_residual.result c.from_residual.ensures.1 in
    let waiting = c.args.self.now.waiting.items in
    let count = c.saturating_sub-count.result in
    rw (passed.1, passed.2)
    (λ known facts on. fails_in g.C.Connection.does known (Contains waiting) (IsAmong waiting c.args.frame) (take count waiting) waiting _ facts _ _ (λ frame there. inl there) (in_front count waiting) (c.in_err-settle.ensures.failed known facts on))

pub returns-in_err-put-clause-failed : goal.returns-in_err-put-clause-failed
returns-in_err-put-clause-failed g c =
    let passed = err_from_is_err_and c.from_residual-in_err-put.result c.from_residual-in_err-put.ensures.1 in
    let waiting = c.args.self.now.waiting.items in
    let count = c.saturating_sub-count.result in
    let frame = c.args.frame in
    rw (passed.1, passed.2)
    (λ known facts on. let settles = c.in_ok-settle.ensures.settled known facts on in
    fails_on g.C.Connection.does known (λ other. other ≡ frame) (IsAmong waiting frame) [] waiting _ facts _ _ _
    (goes_in g.C.Connection.does known (Contains waiting) (IsAmong waiting frame) facts _ _ (λ other there. inl there) settles.goes) (λ other same. inr same) (none_in waiting)
    (c.in_err-put.ensures.failed known (facts_after facts settles.goes.events) settles.stands_on))

pub returns-clause-sent : goal.returns-clause-sent
returns-clause-sent g c = λ known facts on.
    let settles = c.in_ok-settle.ensures.settled known facts on in
    sends_on g.C.Connection.does known c.saturating_sub-count.result c.args.frame facts _ _ _ (omega (arith, c.saturating_sub-count.ensures, c.len.ensures, c.args.self.now.waiting.ok.0)) settles c.in_ok-settle.ensures.left
    (c.in_ok-put.ensures.put known (facts_after facts settles.goes.events) settles.stands_on) c.in_ok-put.ensures.behind
