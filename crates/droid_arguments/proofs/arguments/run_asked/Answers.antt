use Rattle.std.proofs.Common.{◌∙◌, refl, codes}
use Rattle.clap.specs.Words.{found_of, rows_of}
use Rattle.clap.proofs.WalkLemmas.{first_value-rows}
use Rattle.droid_arguments.proofs.Refusals.{asks_by}
use Rattle.droid_arguments.proofs.arguments.run_asked.Goals as goal

pub returns : goal.returns
returns c = (refl, c.in_ok-registry.ensures, c.get_str-journal.ensures ∙ first_value-rows (found_of c.args.run.now) (codes "journal"))

pub returns-in_err-registry : goal.returns-in_err-registry
returns-in_err-registry c = rw c.from_residual.ensures (λ asked is.
    let given = asks_by (codes "run") (rows_of (found_of c.args.run.now)) asked is in
    c.in_err-registry.ensures given.0 given.1)
