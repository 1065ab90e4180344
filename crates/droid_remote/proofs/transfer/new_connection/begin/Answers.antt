use Rattle.std.proofs.Common.{[], Contains}
use Rattle.std.proofs.lemmas.Result.{err_from_is_err_and}
use Rattle.droid_remote.specs.Events.{Joined, Alone}
use Rattle.droid_remote.specs.declared.transfer.connection_steps.Stage.TheVariants.{Nowhere}
use Rattle.droid_remote.proofs.Counting.{counts_nowhere}
use Rattle.droid_remote.proofs.Going.{goes_one, moves_on, moves_one, stops_on}
use Rattle.droid_remote.proofs.transfer.new_connection.begin.Goals as goal

pub returns-in_err-stage-in-Ok-clause-stopped : goal.returns-in_err-stage-in-Ok-clause-stopped
returns-in_err-stage-in-Ok-clause-stopped g c =
    let passed = err_from_is_err_and c.from_residual.result c.from_residual.ensures.1 in
    let known = c.args.known.now in
    let waiting = c.args.waiting.now.items in
    rw (passed.1, passed.2)
    (λ facts. stops_on g.C.Connection.does known (Contains waiting) _ facts _ _ _ (goes_one g.C.Connection.does known (Contains waiting) facts _ _ Joined c.in-Ok.ensures.joined tt) (c.in_err-stage-in-Ok.ensures.stopped []))

pub returns-in_ok-stage-in-Ok-clause-moves : goal.returns-in_ok-stage-in-Ok-clause-moves
returns-in_ok-stage-in-Ok-clause-moves g c = λ facts.
    let known = c.args.known.now in
    let waiting = c.args.waiting.now.items in
    moves_on g.C.Connection.does known (Contains waiting) facts _ waiting _ _ _ (goes_one g.C.Connection.does known (Contains waiting) facts _ _ Joined c.in-Ok.ensures.joined tt) (c.in_ok-stage-in-Ok.ensures.moves [])

pub returns-in-Err-clause-moves : goal.returns-in-Err-clause-moves
returns-in-Err-clause-moves g c = λ facts.
    let known = c.args.known.now in
    let waiting = c.args.waiting.now.items in
    moves_one g.C.Connection.does known (Contains waiting) facts Nowhere waiting _ _ Alone c.in-Err.ensures.alone tt (counts_nowhere known waiting [])
