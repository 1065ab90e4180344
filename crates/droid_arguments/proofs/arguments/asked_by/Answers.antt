use Rattle.droid_arguments.proofs.Refusals.{no_command, none_met}
use Rattle.droid_arguments.proofs.arguments.asked_by.Goals as goal

pub returns-in_err-subcommand_matches : goal.returns-in_err-subcommand_matches
returns-in_err-subcommand_matches c = rw c.from_residual.ensures (no_command c.args.matches.now
    (none_met c.in_default.ensures.found)
    (none_met c.in_default-subcommand_matches.ensures.found)
    (none_met c.in_default-subcommand_matches-2.ensures.found)
    (none_met c.in_default-subcommand_matches-3.ensures.found)
    (none_met c.in_default-subcommand_matches-4.ensures.found)
    (none_met c.in_default-subcommand_matches-5.ensures.found)
    (none_met c.in_default-subcommand_matches-6.ensures.found)
    (none_met c.in_default-subcommand_matches-7.ensures.found)
    (none_met c.in_default-subcommand_matches-8.ensures.found)
    (none_met c.in_default-subcommand_matches-9.ensures.found)
    (none_met c.in_err-subcommand_matches.ensures.found))
