use Rattle.droid_wire.proofs.Going.{serves_journal}
use Rattle.droid_wire.proofs.Noting.{writing_stays}
use Rattle.droid_wire.proofs.journal_connections.serve_journal.Goals as goal

pub returns-clause-journal : goal.returns-clause-journal
returns-clause-journal g c = λ setting header history stood.
    serves_journal g.F.LogFile.has g.F.LogFile.kept setting header history g.C.Connections.does c.args.rules c.args.connections.now c.serve_in_turns.new.connections c.args.handler.now c.serve_in_turns.new.handler c.serve_in_turns.result stood c.serve_in_turns.ensures

pub returns-clause-noted : goal.returns-clause-noted
returns-clause-noted g c = λ its noted.
    writing_stays g.F.LogFile.has g.F.LogFile.kept g.C.Connections.does c.serve_in_turns.ensures.steps c.args.connections.now c.serve_in_turns.new.connections c.args.handler.now c.serve_in_turns.new.handler c.serve_in_turns.ensures.done its noted
