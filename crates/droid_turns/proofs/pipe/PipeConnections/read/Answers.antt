use Rattle.std.proofs.Common.{refl, arith}
use Rattle.droid_turns.proofs.PipeEvents.{read_does}
use Rattle.droid_turns.proofs.pipe.PipeConnections.read.Goals as goal

pub returns-clause-came : goal.returns-clause-came
returns-clause-came g c =
    read_does g.R.Read.remaining g.W.Write.contents g.R.SteadyRead.seen g.W.SteadyWrite.seen g.W.SteadyWrite.room _ _ c.args.id c.read_from.new.buffer c.read_from.result (omega arith) refl refl c.read_from.ensures.came c.read_from.ensures.reported
