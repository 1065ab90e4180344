use Rattle.std.proofs.Common.{refl, arith}
use Rattle.droid_turns.proofs.PipeEvents.{write_does}
use Rattle.droid_turns.proofs.pipe.PipeConnections.write.Goals as goal

pub returns-clause-went : goal.returns-clause-went
returns-clause-went g c =
    write_does g.R.Read.remaining g.W.Write.contents g.R.SteadyRead.seen g.W.SteadyWrite.seen g.W.SteadyWrite.room _ _ c.args.id c.args.bytes.now c.write_to.result (omega arith) refl refl c.write_to.ensures.took c.write_to.ensures.reported
