use Rattle.std.proofs.Common.{◌∷◌, [], List, Contains, drop, take, sym, ap, subst, ◌∙◌}
use Rattle.std.proofs.lemmas.List.Elements.{Contains-append_right, Contains-push}
use Rattle.std.proofs.lemmas.Result.{err_from_is_err_and}
use Rattle.droid_frame.specs.declared.frame.Frame.{Frame}
use Rattle.droid_remote.specs.Events.{facts_after}
use Rattle.droid_remote.proofs.Counting.{in_front, none_in}
use Rattle.droid_remote.proofs.Waiting.{fails_in, fails_on, fails_reset, piece_explains, refused_first, settles_first}
use Rattle.droid_remote.proofs.transfer.in_flight.InFlight.settle_first.Goals as goal

pub returns-in_err-answer-clause-failed : goal.returns-in_err-answer-clause-failed
returns-in_err-answer-clause-failed g c =
    let passed = err_from_is_err_and c.from_residual.result c.from_residual.ensures.1 in
    let waiting = c.args.self.now.waiting.items in
    rw (passed.1, passed.2)
    (λ known facts on. fails_in g.C.Connection.does known (Contains waiting) (Contains waiting) [] (take 1 waiting) _ facts _ _ (λ frame is. is) (none_in (take 1 waiting)) (c.in_err-answer.ensures.failed known facts on))

pub returns-in-Ok-clause-settled : goal.returns-in-Ok-clause-settled
returns-in-Ok-clause-settled g c = λ known facts on.
    settles_first g.C.Connection.does known facts c.in_ok-answer.answer _ _ (c.in_ok-answer.ensures.taken known facts on) c.in_ok-answer.ensures.first c.in_ok-answer.ensures.to c.in-Ok.ensures.taken

pub returns-in-Ok-clause-left : goal.returns-in-Ok-clause-left
returns-in-Ok-clause-left g c = ap (λ (l : List Frame). drop 1 l) (sym c.in_ok-answer.ensures.first)

pub returns-clause-failed : goal.returns-clause-failed
returns-clause-failed g c = λ known facts on.
    let takes = c.in_ok-answer.ensures.taken known facts on in
    refused_first g.C.Connection.does known facts c.in_ok-answer.answer c.in-Err.fault c.args.self.now c.take.new.self c.drain.new.self takes c.in_ok-answer.ensures.first c.in_ok-answer.ensures.to c.in-Err.ensures.fault
    (sym c.is_refusal.ensures ∙ c.if-not-is_refusal.false) (c.in_ok-drain-in-Err.ensures.drained known (facts_after facts takes.goes.events) takes.stands_on) c.drain.ensures.none

pub returns-in_err-drain-in-Err-clause-failed : goal.returns-in_err-drain-in-Err-clause-failed
returns-in_err-drain-in-Err-clause-failed g c =
    let passed = err_from_is_err_and c.from_residual-in_err-drain-in-Err.result c.from_residual-in_err-drain-in-Err.ensures.1 in
    let waiting = c.args.self.now.waiting.items in
    let first = c.in_ok-answer.ensures.first in
    let request = c.in_ok-answer.answer.request in
    rw (passed.1, passed.2)
    (λ known facts on. let takes = c.in_ok-answer.ensures.taken known facts on in
    fails_on g.C.Connection.does known (Contains c.take.new.self.waiting.items) (Contains waiting) [] (take 1 waiting) _ facts c.args.self.now c.take.new.self _ takes.goes
    (λ frame there. subst (λ (l : List Frame). Contains l frame) (sym first) (Contains-append_right (request ∷ []) c.take.new.self.waiting.items frame there)) (none_in (take 1 waiting))
    (c.in_err-drain-in-Err.ensures.failed known (facts_after facts takes.goes.events) takes.stands_on))

pub returns-then-not-is_refusal-clause-failed : goal.returns-then-not-is_refusal-clause-failed
returns-then-not-is_refusal-clause-failed g c = λ known facts on.
    let waiting = c.args.self.now.waiting.items in
    let first = c.in_ok-answer.ensures.first in
    let answer = c.in_ok-answer.answer in
    let takes = c.in_ok-answer.ensures.taken known facts on in
    let front : Contains (take 1 waiting) answer.request = subst (λ (l : List Frame). Contains (take 1 l) answer.request) (sym first) (Contains-push [] answer.request) in
    fails_reset g.C.Connection.does known (Contains waiting) (take 1 waiting) c.in-Err.fault facts c.args.self.now c.take.new.self c.reset.new.self
    (record { goes = takes.goes; explained = piece_explains g.C.Connection.does known facts answer c.args.self.now c.take.new.self takes (take 1 waiting) front (in_front 1 waiting answer.request front) c.in_ok-answer.ensures.to c.in-Err.fault c.in-Err.ensures.fault })
    takes.stands_on.same c.reset.ensures.connection c.reset.ensures.known c.reset.ensures.none c.reset.ensures.nowhere
