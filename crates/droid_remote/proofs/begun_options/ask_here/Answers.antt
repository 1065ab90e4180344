use Rattle.droid_remote.proofs.Probing.{answers_here, stays_came, stays_lost, stays_unwritten}
use Rattle.droid_remote.proofs.begun_options.ask_here.Goals as goal

pub returns-in_err-write_here-clause-stays : goal.returns-in_err-write_here-clause-stays
returns-in_err-write_here-clause-stays g c = λ known facts stands. stays_unwritten g.C.Connection.does known c.args.frame.now facts c.args.in_flight.now c.write_here.new.in_flight stands c.in_err-write_here.ensures

pub returns-in_err-came-clause-stays : goal.returns-in_err-came-clause-stays
returns-in_err-came-clause-stays g c = λ known facts stands.
    stays_lost g.C.Connection.does known c.args.frame.now facts c.args.in_flight.now c.write_here.new.in_flight c.read_here.new.in_flight stands c.in_ok-write_here.ensures c.in_err-came.ensures

pub returns-in_err-reply-clause-stays : goal.returns-in_err-reply-clause-stays
returns-in_err-reply-clause-stays g c = λ known facts stands.
    stays_came g.C.Connection.does known c.args.frame.now facts c.args.in_flight.now c.write_here.new.in_flight c.read_here.new.in_flight stands c.in_ok-write_here.ensures c.in_ok-came.came c.in_ok-came.ensures

pub returns-clause-answered : goal.returns-clause-answered
returns-clause-answered g c = λ known facts stands.
    answers_here g.C.Connection.does known c.args.frame.now facts c.args.in_flight.now c.write_here.new.in_flight c.read_here.new.in_flight stands c.in_ok-write_here.ensures c.in_ok-came.came c.in_ok-came.ensures
    c.in_ok-reply.reply c.in_ok-reply.ensures

pub returns-clause-stays : goal.returns-clause-stays
returns-clause-stays g c = λ known facts stands.
    stays_came g.C.Connection.does known c.args.frame.now facts c.args.in_flight.now c.write_here.new.in_flight c.read_here.new.in_flight stands c.in_ok-write_here.ensures c.in_ok-came.came c.in_ok-came.ensures
