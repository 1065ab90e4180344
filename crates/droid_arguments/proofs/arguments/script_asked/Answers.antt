use Rattle.std.proofs.Common.{refl, codes}
use Rattle.clap.specs.Words.{found_of, rows_of}
use Rattle.droid_arguments.proofs.Refusals.{asks_by}
use Rattle.droid_arguments.proofs.arguments.script_asked.Goals as goal

pub returns : goal.returns
returns c = (refl, c.in_ok-registry.ensures)

pub returns-in_err-registry : goal.returns-in_err-registry
returns-in_err-registry c = rw c.from_residual.ensures (λ asked is.
    let given = asks_by (codes "script") (rows_of (found_of c.args.script.now)) asked is in
    c.in_err-registry.ensures given.0 given.1)
