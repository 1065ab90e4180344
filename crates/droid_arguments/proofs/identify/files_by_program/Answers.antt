use Rattle.std.proofs.Common.{IfErr, IfOk, ap, subst, map, string_bytes}
use Rattle.clap.specs.Words.{App, is_simple, is_simple_and_free, subcommand_of}
use Rattle.droid_arguments.specs.Asking.{FailsFaulty}
use Rattle.droid_arguments.specs.Identifying.{NamesFiles}
use Rattle.droid_arguments.proofs.identify.files_by_program.Goals as goal

pub returns-clause-files : goal.returns-clause-files
returns-clause-files c =
    let program_is = c.in_ok-command.ensures.0 in
    subst (λ (a : App). IfOk c.files_by.result (NamesFiles (subcommand_of a (map string_bytes c.args.words.now)))) program_is (c.files_by.ensures.files (ap is_simple program_is))

pub returns-clause-refused : goal.returns-clause-refused
returns-clause-refused c =
    let program_is = c.in_ok-command.ensures.0 in
    subst (λ (a : App). IfErr c.files_by.result (FailsFaulty a (map string_bytes c.args.words.now))) program_is (c.files_by.ensures.refused (ap is_simple_and_free program_is))
