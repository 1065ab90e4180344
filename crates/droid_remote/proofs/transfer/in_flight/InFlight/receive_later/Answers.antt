use Rattle.std.proofs.Common.{◌≤◌, ◌++◌, ◌∷◌, [], Contains, length, inl, inr, refl, ◌∙◌, arith}
use Rattle.std.proofs.lemmas.Result.{err_from_is_err_and}
use Rattle.droid_remote.specs.Events.{Expired, Paused, facts_after}
use Rattle.droid_remote.proofs.Going.{goes_on, goes_one}
use Rattle.droid_remote.proofs.Waiting.{hears_on, stops_later, tries_again, tries_none, tries_paused}
use Rattle.droid_remote.proofs.transfer.in_flight.InFlight.receive_later.Goals as goal

pub loop-init : goal.loop-init
loop-init g c = record { tries = λ known facts on. (tries_none g.C.Connection.does known facts _ on, omega arith); same = refl; known = refl }

pub returns-then-not-pause-clause-stopped : goal.returns-then-not-pause-clause-stopped
returns-then-not-pause-clause-stopped g c = λ known facts on.
    let tries = c.loop.invariant.tries known facts on in
    record {
      goes = goes_on g.C.Connection.does known (Contains c.args.self.now.waiting.items) facts _ _ _ tries.0.goes
          (goes_one g.C.Connection.does known (Contains c.args.self.now.waiting.items) (facts_after facts tries.0.goes.events) _ _ Expired c.if-not-pause.ensures.waited.happened tt);
      explained = inl (tries.0.goes.events, refl);
    }

pub returns-then-not-pause-clause-same : goal.returns-then-not-pause-clause-same
returns-then-not-pause-clause-same g c = c.if-not-pause.ensures.waited.same_waiting ∙ c.loop.invariant.same

pub returns-then-not-pause-clause-known : goal.returns-then-not-pause-clause-known
returns-then-not-pause-clause-known g c = c.if-not-pause.ensures.waited.same_known ∙ c.loop.invariant.known

pub loop-preserved : goal.loop-preserved
loop-preserved g c = record {
  tries = λ known facts on.
      let tries = c.loop.invariant.tries known facts on in
      tries_again g.C.Connection.does known c.loop.counter facts _ _ _ _ tries.0 tries.1 c.loop.invariant.same c.if-not-pause.ensures.waited
      (λ then there. rw c.in-None.is at c.in_ok-read.ensures.read known then there);
  same = c.read_once.ensures.same ∙ (c.if-not-pause.ensures.waited.same_waiting ∙ c.loop.invariant.same);
  known = c.read_once.ensures.known ∙ (c.if-not-pause.ensures.waited.same_known ∙ c.loop.invariant.known);
}

pub returns-in-Some-clause-heard : goal.returns-in-Some-clause-heard
returns-in-Some-clause-heard g c = λ known facts on.
    let tries = c.loop.invariant.tries known facts on in
    let rested = tries_paused g.C.Connection.does known facts _ _ _ tries.0 c.loop.invariant.same c.if-not-pause.ensures.waited in
    hears_on g.C.Connection.does known c.in-Some.frame facts _ _ _ rested (c.if-not-pause.ensures.waited.same_waiting ∙ c.loop.invariant.same)
    (rw c.in-Some.is at c.in_ok-read.ensures.read known (facts_after facts (tries.0.goes.events ++ Paused ∷ [])) rested.stands_on)

pub returns-in-Some-clause-same : goal.returns-in-Some-clause-same
returns-in-Some-clause-same g c = c.read_once.ensures.same ∙ (c.if-not-pause.ensures.waited.same_waiting ∙ c.loop.invariant.same)

pub returns-in-Some-clause-known : goal.returns-in-Some-clause-known
returns-in-Some-clause-known g c = c.read_once.ensures.known ∙ (c.if-not-pause.ensures.waited.same_known ∙ c.loop.invariant.known)

pub returns-in_err-read-clause-stopped : goal.returns-in_err-read-clause-stopped
returns-in_err-read-clause-stopped g c =
    let passed = err_from_is_err_and c.from_residual.result c.from_residual.ensures.1 in
    rw (passed.1, passed.2)
    (λ known facts on. let tries = c.loop.invariant.tries known facts on in
    let rested = tries_paused g.C.Connection.does known facts _ _ _ tries.0 c.loop.invariant.same c.if-not-pause.ensures.waited in
    stops_later g.C.Connection.does known _ facts _ _ _ rested (c.if-not-pause.ensures.waited.same_waiting ∙ c.loop.invariant.same)
    (c.in_err-read.ensures.stopped known (facts_after facts (tries.0.goes.events ++ Paused ∷ [])) rested.stands_on))

pub returns-in_err-read-clause-same : goal.returns-in_err-read-clause-same
returns-in_err-read-clause-same g c = c.read_once.ensures.same ∙ (c.if-not-pause.ensures.waited.same_waiting ∙ c.loop.invariant.same)

pub returns-in_err-read-clause-known : goal.returns-in_err-read-clause-known
returns-in_err-read-clause-known g c = c.read_once.ensures.known ∙ (c.if-not-pause.ensures.waited.same_known ∙ c.loop.invariant.known)

pub returns-clause-stopped : goal.returns-clause-stopped
returns-clause-stopped g c = λ known facts on.
    let tries = c.loop.invariant.tries known facts on in
    record { goes = tries.0.goes; explained = inr (let many : c.loop.counter ≤ length tries.0.goes.events = tries.1 in omega arith) }
