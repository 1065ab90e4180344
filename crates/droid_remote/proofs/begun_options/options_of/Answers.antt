use Rattle.droid_remote.proofs.Probing.{tries_none}
use Rattle.droid_remote.proofs.begun_options.options_of.Goals as goal

pub returns-in-Some-clause-tries : goal.returns-in-Some-clause-tries
returns-in-Some-clause-tries g c = λ known facts stands. tries_none c.args.sender.now.client c.args.sender.now.name c.args.options g.C.Connection.does known facts c.args.sender.now.in_flight stands
