use Rattle.std.proofs.Common.{subst}
use Rattle.droid_frame.specs.declared.frame.Frame.{Frame}
use Rattle.droid_remote.specs.Calls.{Waits}
use Rattle.droid_remote.proofs.patience.ask_copy.Goals as goal

pub returns-clause-answered : goal.returns-clause-answered
returns-clause-answered g c = λ known facts stands.
    subst (λ (frame : Frame). Waits g.C.Connection.does known frame c.in_ok-reply.reply facts c.args.in_flight.now c.ask.new.self) c.in_ok-copy.ensures (c.in_ok-reply.ensures.answered known facts stands)
