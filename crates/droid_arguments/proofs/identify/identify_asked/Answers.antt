use Rattle.std.proofs.Common.{codes}
use Rattle.clap.specs.Words.{found_of, rows_of}
use Rattle.droid_arguments.proofs.Refusals.{asks_by}
use Rattle.droid_arguments.proofs.identify.identify_asked.Goals as goal

pub returns-in_err-options : goal.returns-in_err-options
returns-in_err-options c = rw c.from_residual.ensures (λ asked is.
    let given = asks_by (codes "identify") (rows_of (found_of c.args.identify.now)) asked is in
    c.in_err-options.ensures given.0 given.1)
