use Rattle.droid_turns.proofs.PipeSteps.{answers_one}
use Rattle.droid_turns.proofs.stream_answers.answer_pipe.Goals as goal

pub returns : goal.returns
returns g c =
    answers_one g.R.Read.remaining g.W.Write.contents g.R.SteadyRead.seen g.W.SteadyWrite.seen g.W.SteadyWrite.room g.H.Handler.handles g.H.Handler.settles c.args.pipe.now c.serve_in_turns.new.connections c.args.handler.now c.serve_in_turns.new.handler c.serve_in_turns.result c.serve_in_turns.ensures
