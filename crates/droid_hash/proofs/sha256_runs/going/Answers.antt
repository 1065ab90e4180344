use Rattle.std.proofs.Common.{false, nat_lt, length, refl}
use Rattle.droid_hash.proofs.Four.{four_results}
use Rattle.droid_hash.proofs.sha256_runs.going.Goals as goal

pub returns : goal.returns
returns c = four_results (λ x. x.now) (λ x. nat_lt c.args.at (length x)) c.args.runs _ false _ _ _ _ refl refl refl refl
