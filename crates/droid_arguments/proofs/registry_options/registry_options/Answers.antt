use Rattle.std.proofs.Common.{◌∙◌, codes}
use Rattle.clap.specs.Words.{found_of}
use Rattle.clap.proofs.WalkLemmas.{first_value-rows}
use Rattle.droid_arguments.proofs.Refusals.{not_found}
use Rattle.droid_arguments.proofs.registry_options.registry_options.Goals as goal

pub returns : goal.returns
returns c =
    let found = found_of c.args.registry.now in
    record {
      file = c.in_ok-file.ensures ∙ first_value-rows found (codes "file");
      output = c.get_str-output.ensures ∙ first_value-rows found (codes "output");
      quiet = c.flag_of-quiet.ensures;
    }

pub returns-in_err-file : goal.returns-in_err-file
returns-in_err-file c = rw c.from_residual.ensures (λ options is. not_found _ _ options.file.now c.in_err-file.ensures is.file (first_value-rows (found_of c.args.registry.now) (codes "file")))
