use Rattle.std.proofs.Common.{◌∙◌, codes}
use Rattle.clap.specs.Words.{found_of}
use Rattle.clap.proofs.WalkLemmas.{first_value-rows}
use Rattle.droid_arguments.proofs.Refusals.{not_found}
use Rattle.droid_arguments.proofs.report_options.report_options.Goals as goal

pub returns : goal.returns
returns c =
    let found = found_of c.args.report.now in
    record {
      profile = c.in_ok-profile.ensures ∙ first_value-rows found (codes "profile");
      title = c.get_str-title.ensures ∙ first_value-rows found (codes "title");
      output = c.get_str-output.ensures ∙ first_value-rows found (codes "output");
    }

pub returns-in_err-profile : goal.returns-in_err-profile
returns-in_err-profile c = rw c.from_residual.ensures (λ options is. not_found _ _ options.profile.now c.in_err-profile.ensures is.profile (first_value-rows (found_of c.args.report.now) (codes "profile")))
