use Rattle.std.proofs.Common.{List, Option, subst, sym}
use Rattle.clap.proofs.TakesLemmas.{passed_up}
use Rattle.clap.specs.Words.{Row, Text}
use Rattle.droid_arguments.specs.Asking.{IsAsked}
use Rattle.droid_arguments.proofs.Refusals.{memory_alone}
use Rattle.droid_arguments.proofs.arguments.asked_of.Goals as goal

pub returns-in_err-matches-clause-refused : goal.returns-in_err-matches-clause-refused
returns-in_err-matches-clause-refused c = λ simple free.
    passed_up c.from_residual.result c.in_err-matches.field-0.0 _ c.from_residual.ensures.1 (λ none asked asks. memory_alone _ c.in_err-matches.field-0.0 none (c.in_err-matches.ensures.kinds free))

pub returns-clause-refused : goal.returns-clause-refused
returns-clause-refused c = λ simple free none asked asks.
    absurd (c.in-None.ensures asked (subst (λ (entered : Option (Text × List Row)). IsAsked entered asked) (sym (c.in_ok-matches.ensures.ok.2 simple).1) asks))
