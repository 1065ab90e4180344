use Rattle.std.proofs.Common.{ℕ}
use Rattle.droid_frame.specs.Seen.{Counts}
use Rattle.droid_frame.proofs.Scopes.{counts_none}
use Rattle.droid_export.proofs.WriterStops.{stops, goes_on}
use Rattle.droid_profile.proofs.pending_lines.write_text.Goals as goal

pub returns-clause-stopped : goal.returns-clause-stopped
returns-clause-stopped g c = λ sound.
    let start : ℕ = (g.M.SteadyWrite.seen c.args.writer.now).interruptions in
    let now : Counts start (g.M.SteadyWrite.seen c.args.writer.now) c.new-progress.result.retries = rw c.new-progress.ensures.retries (counts_none _ sound) in
    stops start _ _ _ c.write_all.result (c.write_all.ensures.counts start now)

pub returns-clause-steady : goal.returns-clause-steady
returns-clause-steady g c = λ sound.
    let start : ℕ = (g.M.SteadyWrite.seen c.args.writer.now).interruptions in
    let now : Counts start (g.M.SteadyWrite.seen c.args.writer.now) c.new-progress.result.retries = rw c.new-progress.ensures.retries (counts_none _ sound) in
    goes_on start _ (g.M.SteadyWrite.room c.write_all.new.writer) _ c.write_all.result (c.write_all.ensures.counts start now)
