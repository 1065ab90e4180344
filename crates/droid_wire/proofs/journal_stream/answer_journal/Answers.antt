use Rattle.droid_turns.specs.Pipes.{PipeDoes}
use Rattle.droid_wire.proofs.Going.{answers_journal}
use Rattle.droid_wire.proofs.Noting.{writing_stays}
use Rattle.droid_wire.proofs.journal_stream.answer_journal.Goals as goal

pub returns-clause-journal : goal.returns-clause-journal
returns-clause-journal g c = λ setting header history stood.
    answers_journal g.F.LogFile.has g.F.LogFile.kept setting header history g.R.Read.remaining g.W.Write.contents g.R.SteadyRead.seen g.W.SteadyWrite.seen g.W.SteadyWrite.room c.args.pipe.now c.answer_pipe.new.pipe c.args.handler.now c.answer_pipe.new.handler c.answer_pipe.result stood c.answer_pipe.ensures

pub returns-clause-noted : goal.returns-clause-noted
returns-clause-noted g c = λ its noted.
    writing_stays g.F.LogFile.has g.F.LogFile.kept (PipeDoes g.R.Read.remaining g.W.Write.contents g.R.SteadyRead.seen g.W.SteadyWrite.seen g.W.SteadyWrite.room) c.answer_pipe.ensures.steps c.args.pipe.now c.answer_pipe.new.pipe c.args.handler.now c.answer_pipe.new.handler c.answer_pipe.ensures.done its noted
