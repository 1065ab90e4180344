use Rattle.std.proofs.Common.{◌≡◌, [], IfErr, IfOk, ap, subst, map, string_bytes}
use Rattle.clap.specs.Words.{App, fault_of, is_simple, is_simple_and_free, subcommand_of}
use Rattle.droid_arguments.specs.Asking.{FailsBy, IsAsked}
use Rattle.droid_arguments.specs.declared.arguments.Asked.{Asked}
use Rattle.droid_arguments.proofs.arguments.asked_of_program.Goals as goal

pub returns-clause-asks : goal.returns-clause-asks
returns-clause-asks c =
    let program_is = c.in_ok-command.ensures.0 in
    subst (λ (a : App). IfOk c.asked_of.result (λ (asked : Asked). IsAsked (subcommand_of a (map string_bytes c.args.words.now)) asked)) program_is (c.asked_of.ensures.asks (ap is_simple program_is))

pub returns-clause-taken : goal.returns-clause-taken
returns-clause-taken c =
    let program_is = c.in_ok-command.ensures.0 in
    subst (λ (a : App). IfOk c.asked_of.result (λ _. fault_of a (map string_bytes c.args.words.now) ≡ [])) program_is (c.asked_of.ensures.taken (ap is_simple_and_free program_is))

pub returns-clause-refused : goal.returns-clause-refused
returns-clause-refused c =
    let program_is = c.in_ok-command.ensures.0 in
    subst (λ (a : App). IfErr c.asked_of.result (FailsBy a (map string_bytes c.args.words.now))) program_is (c.asked_of.ensures.refused (ap is_simple program_is) (ap is_simple_and_free program_is))
