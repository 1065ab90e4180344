use Rattle.std.proofs.Common.{refl}
use Rattle.droid_frame.specs.Seen.{Counts}
use Rattle.droid_frame.proofs.Scopes.{counts_none, reported_fault, reported_none}
use Rattle.droid_frame.proofs.Stopping.{given_up_only, room_stays}
use Rattle.droid_lines.proofs.reply_text.write_text.Goals as goal

pub returns-in-Ok-clause-reported : goal.returns-in-Ok-clause-reported
returns-in-Ok-clause-reported g c = λ sound endless.
    let old = g.T.SteadyWrite.seen c.args.text.now in
    let new = g.T.SteadyWrite.seen c.write_all.new.writer in
    let counts : Counts old.interruptions old c.new-progress.result.retries = rw c.new-progress.ensures.retries (counts_none old sound) in
    let still = c.in-Ok.ensures.counts old.interruptions counts in
    let none = room_stays _ _ (rw endless at c.in-Ok.ensures.room_ok) in
    (reported_none old.interruptions new _ _ (λ e. absurd cc) still, none)

pub returns-in-Err-clause-reported : goal.returns-in-Err-clause-reported
returns-in-Err-clause-reported g c = λ sound endless.
    let old = g.T.SteadyWrite.seen c.args.text.now in
    let new = g.T.SteadyWrite.seen c.write_all.new.writer in
    let counts : Counts old.interruptions old c.new-progress.result.retries = rw c.new-progress.ensures.retries (counts_none old sound) in
    let stops = c.in-Err.ensures.counts old.interruptions counts in
    let none = room_stays _ _ (rw endless at c.in-Err.ensures.room_err) in
    (reported_fault old.interruptions new _ refl (given_up_only old.interruptions new _ stops none), none)
