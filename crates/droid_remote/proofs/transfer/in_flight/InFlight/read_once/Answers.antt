use Rattle.std.proofs.Common.{◌++◌, Contains, sym, subst}
use Rattle.droid_remote.specs.Events.{facts_after}
use Rattle.droid_remote.specs.Moves.{Moves}
use Rattle.droid_remote.specs.Stages.{CountsOn}
use Rattle.droid_remote.specs.declared.transfer.known_requests.KnownRequests.{KnownRequests}
use Rattle.droid_remote.proofs.Counting.{counts_nowhere}
use Rattle.droid_remote.proofs.Going.{goes_on}
use Rattle.droid_remote.proofs.Waiting.{reads_nothing}
use Rattle.droid_remote.proofs.transfer.in_flight.InFlight.read_once.Goals as goal

pub returns-in-Some-clause-read : goal.returns-in-Some-clause-read
returns-in-Some-clause-read g c = λ known facts on.
    let old = c.args.self.now in
    let waiting = old.waiting.items in
    record {
      stage = c.in_ok-stage.stage;
      middle = c.write_ahead.new.connection;
      ahead = subst (λ (k : KnownRequests). Moves g.C.Connection.does k (Contains waiting) facts c.in_ok-stage.stage waiting old.connection c.write_ahead.new.connection) on.same
          (c.in_ok-stage.ensures.moves facts (subst (λ (k : KnownRequests). CountsOn old.stage k waiting facts) (sym on.same) on.counts));
      stands = c.in-Some.ensures.0;
      first = c.in_ok-stage.ensures.first;
      last = c.in-Some.ensures.1;
      same_known = on.same;
      behind = c.behind_answer-self.ensures waiting;
    }

pub returns-in-None-clause-read : goal.returns-in-None-clause-read
returns-in-None-clause-read g c = λ known facts on.
    let old = c.args.self.now in
    let waiting = old.waiting.items in
    let moves = subst (λ (k : KnownRequests). Moves g.C.Connection.does k (Contains waiting) facts c.in_ok-stage.stage waiting old.connection c.write_ahead.new.connection) on.same
    (c.in_ok-stage.ensures.moves facts (subst (λ (k : KnownRequests). CountsOn old.stage k waiting facts) (sym on.same) on.counts)) in
    let nothing = reads_nothing g.C.Connection.does known (Contains waiting) (facts_after facts moves.goes.events) _ _ c.in-None.ensures in
    record {
      goes = goes_on g.C.Connection.does known (Contains waiting) facts _ _ _ moves.goes nothing;
      stands_on = record { same = on.same; counts = counts_nowhere known waiting (facts_after facts (moves.goes.events ++ nothing.events)) };
    }
