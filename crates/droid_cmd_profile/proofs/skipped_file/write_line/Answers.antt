use Rattle.droid_frame.specs.Seen.{Counts}
use Rattle.droid_frame.proofs.Scopes.{counts_none}
use Rattle.droid_cmd_profile.proofs.WriterEnds.{stops, goes_on}
use Rattle.droid_cmd_profile.proofs.skipped_file.write_line.Goals as goal

pub returns-clause-stopped : goal.returns-clause-stopped
returns-clause-stopped g c = λ sound.
    let old = g.S.SteadyWrite.seen c.args.writer.now in
    let now : Counts old.interruptions old c.new-progress.result.retries = rw c.new-progress.ensures.retries (counts_none _ sound) in
    stops old _ _ _ c.write_all.result (c.write_all.ensures.counts old.interruptions now)

pub returns-clause-steady : goal.returns-clause-steady
returns-clause-steady g c = λ sound.
    let old = g.S.SteadyWrite.seen c.args.writer.now in
    let now : Counts old.interruptions old c.new-progress.result.retries = rw c.new-progress.ensures.retries (counts_none _ sound) in
    goes_on old _ (g.S.SteadyWrite.room c.write_all.new.writer) _ c.write_all.result (c.write_all.ensures.counts old.interruptions now)
