use Rattle.std.proofs.Common.{◌∙◌, ap, sym, map}
use Rattle.std.specs.Borrow.{Bor}
use Rattle.clap.proofs.TakesLemmas.{passed_up}
use Rattle.clap.specs.Words.{Text, found_of, rows_of}
use Rattle.clap.specs.declared.parser.matches.ArgMatches.TheViews.{out-ArgMatches}
use Rattle.droid_arguments.specs.Identifying.{files_in}
use Rattle.droid_arguments.proofs.IdentifyRefusals.{entered_by}
use Rattle.droid_arguments.proofs.Refusals.{memory_alone, name_met, none_met}
use Rattle.droid_arguments.proofs.identify.files_by.Goals as goal

pub returns-in-Some-clause-files : goal.returns-in-Some-clause-files
returns-in-Some-clause-files c = λ simple rows entered.
    let met = (c.in_ok-matches.ensures.ok.2 simple).1 ∙ entered in
    let same = entered_by c.in_ok-matches.matches rows (rows_of (found_of c.in-Some.identify.now)) met c.in-Some.ensures.rows in
    ap (map (λ (file : Bor Text). file.now)) c.in_ok-files-in-Some.ensures ∙ (c.files_of.ensures ∙ ap files_in (sym same))

pub returns-clause-files : goal.returns-clause-files
returns-clause-files c = λ simple rows entered.
    let met = (c.in_ok-matches.ensures.ok.2 simple).1 ∙ entered in
    absurd (none_met c.in-None.ensures.found (name_met (out-ArgMatches c.in_ok-matches.matches).subcommand _ rows met))

pub returns-in_err-matches-clause-refused : goal.returns-in_err-matches-clause-refused
returns-in_err-matches-clause-refused c = λ free.
    passed_up c.from_residual.result c.in_err-matches.field-0.0 _ c.from_residual.ensures.1 (λ none. memory_alone _ c.in_err-matches.field-0.0 none (c.in_err-matches.ensures.kinds free))
