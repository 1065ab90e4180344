-- By what the signature at the place becomes.
use Rattle.std.proofs.Common.{List, sym, subst}
use Rattle.droid_signature_pattern.specs.Choices.{AreTaken}
use Rattle.droid_signature_pattern.specs.declared.choices.Choices.{Choices}
use Rattle.droid_signature.specs.declared.outcomes.Outcome.TheVariants as outcomes
use Rattle.droid_signature.proofs.OutcomeLists.{outcome_is, outcome_there}
use Rattle.droid_signature.proofs.outcomes.taken_at.Goals as goal

pub returns-in-Some-Taken-clause-ok : goal.returns-in-Some-Taken-clause-ok
returns-in-Some-Taken-clause-ok c = λ signatures signature are there.
    let held = rw c.in-Some-Taken.field-0-is at c.in-Some-Taken.ensures in
    subst (λ (all : List Choices). AreTaken signature.sequences all) (sym c.as_slice.ensures.value) (outcome_is signatures c.args.outcomes.now c.args.place signature (outcomes.Taken c.in-Some-Taken.all) are there (sym held))

pub returns-in-Some-LeftOut-clause-err : goal.returns-in-Some-LeftOut-clause-err
returns-in-Some-LeftOut-clause-err c = λ signatures signature are there.
    let held = rw c.in-Some-LeftOut.field-0-is at c.in-Some-LeftOut.ensures in
    outcome_is signatures c.args.outcomes.now c.args.place signature (outcomes.LeftOut c.in-Some-LeftOut.reason) are there (sym held)

pub returns-in-None-clause-err : goal.returns-in-None-clause-err
returns-in-None-clause-err c = λ signatures signature are there. outcome_there signatures c.args.outcomes.now c.args.place signature are there (sym c.in-None.ensures)
