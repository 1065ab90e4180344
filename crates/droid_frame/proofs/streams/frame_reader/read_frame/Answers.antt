use Rattle.droid_frame.proofs.Scopes.{counts_begin}
use Rattle.droid_frame.proofs.StreamCounts.{reported_read}
use Rattle.droid_frame.proofs.StreamArrivals.{accepted, ended}
use Rattle.droid_frame.proofs.streams.frame_reader.read_frame.Goals as goal

pub returns-clause-accepted : goal.returns-clause-accepted
returns-clause-accepted g c = λ frame rest readable e. accepted _ _ c.next_arrival.result frame rest c.next_arrival.ensures.came readable e

pub returns-clause-ended : goal.returns-clause-ended
returns-clause-ended g c = λ input e none. ended _ _ c.next_arrival.result input c.next_arrival.ensures.came e none

pub returns-clause-failed : goal.returns-clause-failed
returns-clause-failed g c = λ sound.
    let start = (g.R.SteadyRead.seen c.args.reader.now).interruptions in
    reported_read start _ _ c.next_arrival.result (c.next_arrival.ensures.counts start (counts_begin _ _ c.new-retries.ensures sound))
