use Rattle.droid_wire.proofs.ServedStreams.{streams_are_served}
use Rattle.droid_wire.proofs.laws.a_stream_is_answered_as_by_serve.Goals as goal

pub returns : goal.returns
returns g c = streams_are_served g.R.Read.remaining g.W.Write.contents g.R.SteadyRead.seen g.W.SteadyWrite.seen g.W.SteadyWrite.room
