use Rattle.std.proofs.Common.{List, sym, subst}
use Rattle.droid_frame.specs.declared.frame.Frame.{Frame}
use Rattle.droid_remote.specs.Events.{facts_after}
use Rattle.droid_remote.specs.Stages.{CountsOn}
use Rattle.droid_remote.proofs.transfer.in_flight.InFlight.put.Goals as goal

pub returns-clause-put : goal.returns-clause-put
returns-clause-put g c = λ known facts stands.
    let old = c.args.self.now in
    let now = c.write_behind-stage in
    let moves = now.ensures known facts (subst (λ (frames : List Frame). CountsOn old.stage known frames facts) (sym c.reserve.ensures.items) stands.counts) in
    record {
      goes = moves.goes;
      stands_on = record {
        same = stands.same;
        counts = subst (λ (frames : List Frame). CountsOn now.result known frames (facts_after facts moves.goes.events)) (sym c.push_back_reserved.ensures.items) moves.counts;
      };
    }
