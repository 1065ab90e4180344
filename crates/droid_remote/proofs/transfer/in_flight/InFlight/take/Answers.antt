use Rattle.std.proofs.Common.{[], Contains, ◌∙◌}
use Rattle.droid_remote.proofs.Waiting.{fails_reset}
use Rattle.droid_remote.proofs.transfer.in_flight.InFlight.take.Goals as goal

pub returns-in-Err-clause-failed : goal.returns-in-Err-clause-failed
returns-in-Err-clause-failed g c = λ known facts on.
    fails_reset g.C.Connection.does known (Contains c.args.self.now.waiting.items) [] c.in-Err.fault facts c.args.self.now c.take_front.new.self c.reset.new.self (c.in-Err.ensures.stopped known facts on) (c.take_front.ensures.known ∙ on.same)
    c.reset.ensures.connection c.reset.ensures.known c.reset.ensures.none c.reset.ensures.nowhere
