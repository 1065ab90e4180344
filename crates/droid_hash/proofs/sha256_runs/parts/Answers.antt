use Rattle.std.proofs.Common.{[], nat_lt, length, drop, if◌then◌else◌}
use Rattle.droid_hash.proofs.Four.{four_results}
use Rattle.droid_hash.proofs.sha256_runs.parts.Goals as goal

pub returns : goal.returns
returns c = four_results (λ x. x.now) (λ x. if nat_lt c.args.at (length x) then drop c.args.at x else drop c.args.at c.args.filler.now) c.args.runs _ [] _ _ _ _
    c.part.ensures c.part-2.ensures c.part-3.ensures c.part-4.ensures
