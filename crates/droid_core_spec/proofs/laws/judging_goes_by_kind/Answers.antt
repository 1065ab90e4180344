use Rattle.droid_core_spec.proofs.Judged.{judged}
use Rattle.droid_core_spec.proofs.laws.judging_goes_by_kind.Goals as goal

pub returns : goal.returns
returns c setting world version request = judged setting world version request
