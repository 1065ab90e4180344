use Rattle.std.proofs.Common.{◌∙◌, refl, codes}
use Rattle.clap.specs.Words.{found_of, rows_of}
use Rattle.clap.proofs.WalkLemmas.{first_value-rows}
use Rattle.droid_arguments.proofs.Refusals.{asks_by, not_found}
use Rattle.droid_arguments.proofs.compact_options.compact_asked.Goals as goal

pub returns : goal.returns
returns c = (refl, c.in_ok-registry.ensures, c.in_ok-file.ensures ∙ first_value-rows (found_of c.args.compact.now) (codes "file"), c.flag_of-quiet.ensures)

pub returns-in_err-registry : goal.returns-in_err-registry
returns-in_err-registry c = rw c.from_residual.ensures (λ asked is.
    let given = (asks_by (codes "compact") (rows_of (found_of c.args.compact.now)) asked is).0 in
    c.in_err-registry.ensures given.0 given.1)

pub returns-in_err-file : goal.returns-in_err-file
returns-in_err-file c = rw c.from_residual-in_err-file.ensures (λ asked is.
    let given = (asks_by (codes "compact") (rows_of (found_of c.args.compact.now)) asked is).1 in
    not_found _ _ given.0 c.in_err-file.ensures given.1 (first_value-rows (found_of c.args.compact.now) (codes "file")))
