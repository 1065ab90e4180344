use Rattle.std.proofs.Common.{◌++◌, ◌∷◌, [], ◌∙◌}
use Rattle.std.proofs.lemmas.Result.{err_from_is_err_and}
use Rattle.droid_remote.specs.Events.{Started, facts_after}
use Rattle.droid_remote.proofs.Waiting.{hears_on, stops_later, tries_started}
use Rattle.droid_remote.proofs.transfer.in_flight.InFlight.receive.Goals as goal

pub returns-in-Some-clause-heard : goal.returns-in-Some-clause-heard
returns-in-Some-clause-heard g c = λ known facts on. rw c.in-Some.is at c.in_ok-first.ensures.read known facts on

pub returns-clause-heard : goal.returns-clause-heard
returns-clause-heard g c = λ known facts on.
    let tries = rw c.in-None.is at c.in_ok-first.ensures.read known facts on in
    let rested = tries_started g.C.Connection.does known facts _ _ _ tries c.read_once.ensures.same c.start_wait.ensures in
    hears_on g.C.Connection.does known _ facts _ _ _ rested (c.start_wait.ensures.same_waiting ∙ c.read_once.ensures.same)
    (c.in_ok-frame.ensures.heard known (facts_after facts (tries.goes.events ++ Started ∷ [])) rested.stands_on)

pub returns-clause-same : goal.returns-clause-same
returns-clause-same g c = c.receive_later.ensures.same ∙ (c.start_wait.ensures.same_waiting ∙ c.read_once.ensures.same)

pub returns-clause-known : goal.returns-clause-known
returns-clause-known g c = c.receive_later.ensures.known ∙ (c.start_wait.ensures.same_known ∙ c.read_once.ensures.known)

pub returns-in_err-frame-clause-stopped : goal.returns-in_err-frame-clause-stopped
returns-in_err-frame-clause-stopped g c =
    let passed = err_from_is_err_and c.from_residual-in_err-frame.result c.from_residual-in_err-frame.ensures.1 in
    rw (passed.1, passed.2)
    (λ known facts on. let tries = rw c.in-None.is at c.in_ok-first.ensures.read known facts on in
    let rested = tries_started g.C.Connection.does known facts _ _ _ tries c.read_once.ensures.same c.start_wait.ensures in
    stops_later g.C.Connection.does known _ facts _ _ _ rested (c.start_wait.ensures.same_waiting ∙ c.read_once.ensures.same)
    (c.in_err-frame.ensures.stopped known (facts_after facts (tries.goes.events ++ Started ∷ [])) rested.stands_on))

pub returns-in_err-frame-clause-same : goal.returns-in_err-frame-clause-same
returns-in_err-frame-clause-same g c = c.receive_later.ensures.same ∙ (c.start_wait.ensures.same_waiting ∙ c.read_once.ensures.same)

pub returns-in_err-frame-clause-known : goal.returns-in_err-frame-clause-known
returns-in_err-frame-clause-known g c = c.receive_later.ensures.known ∙ (c.start_wait.ensures.same_known ∙ c.read_once.ensures.known)
