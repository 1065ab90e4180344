use Rattle.std.proofs.Common.{arith, rules}
use Rattle.droid_terminal.proofs.LastSlashes.{splits_at_last}
use Rattle.droid_terminal.proofs.places.name_of.Goals as goal

pub returns-in-Some : goal.returns-in-Some
returns-in-Some c =
    let split = splits_at_last 47 c.args.path.now _ c.rsplit_once.ensures.cases (omega arith) in
    rw (← split) (grind rules)

pub returns-in-None : goal.returns-in-None
returns-in-None c =
    let split = splits_at_last 47 c.args.path.now _ c.rsplit_once.ensures.cases (omega arith) in
    rw (← split) (grind rules)
