use Rattle.std.proofs.Common.{refl, sym, ◌∙◌}
use Rattle.droid_core.proofs.ProfileRows.{profile_there, profile_missing}
use Rattle.droid_core.proofs.look_ups.profile_of.Goals as goal

pub returns-in-Some-clause-found : goal.returns-in-Some-clause-found
returns-in-Some-clause-found c = λ setting world number rows keeps is.
    profile_there setting world rows number keeps c.in-Some.row (sym c.in-Some.is ∙ (rw c.in_ok-row.was at is))

pub returns-in-None-clause-found : goal.returns-in-None-clause-found
returns-in-None-clause-found c = λ setting world number rows keeps is.
    (refl, profile_missing setting world rows number keeps (sym c.in-None.is ∙ (rw c.in_ok-row.was at is)))
