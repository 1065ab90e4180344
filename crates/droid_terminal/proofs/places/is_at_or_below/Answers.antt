use Rattle.std.proofs.Common.{◌≡◌, ℕ, true, false, nat_eq, refl, ap}
use Rattle.std.proofs.lemmas.Bool.{eqb-true}
use Rattle.droid_terminal.proofs.Prefixes.{at_folder, below_folder, not_in, slash_follows}
use Rattle.droid_terminal.proofs.places.is_at_or_below.Goals as goal

pub returns-in_default : goal.returns-in_default
returns-in_default c = (λ never. absurd (let bad : false ≡ true = never in cc), λ within. absurd (not_in c.args.path.now c.args.folder.now c.in_default.ensures.cases within))

pub returns-in-Some-first : goal.returns-in-Some-first
returns-in-Some-first c = (
  λ slash. below_folder c.args.path.now c.args.folder.now c.in-Some.rest.now c.in-Some-first.byte.now c.in-Some.ensures.cases.0 c.in-Some.ensures.cases.1 c.in-Some-first.ensures.value (eqb-true c.in-Some-first.byte.now 47 slash),
  λ within. ap (λ (b : ℕ). nat_eq b 47) (slash_follows c.args.path.now c.args.folder.now c.in-Some.rest.now c.in-Some-first.byte.now c.in-Some.ensures.cases.1 c.in-Some-first.ensures.value within),
)

pub returns-in-None : goal.returns-in-None
returns-in-None c = (
  λ yes. at_folder c.args.path.now c.args.folder.now c.in-Some.rest.now c.in-Some.ensures.cases.0 c.in-Some.ensures.cases.1 c.in-None.ensures.value,
  λ within. refl,
)
