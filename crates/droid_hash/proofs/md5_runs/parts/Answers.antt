use Rattle.std.proofs.Common.{[], nat_lt, length, drop, if◌then◌else◌}
use Rattle.droid_hash.proofs.Eight.{eight_results}
use Rattle.droid_hash.proofs.md5_runs.parts.Goals as goal

pub returns : goal.returns
returns c = eight_results (λ x. x.now) (λ x. if nat_lt c.args.at (length x) then drop c.args.at x else drop c.args.at c.args.filler.now) c.args.runs _ [] _ _ _ _ _ _ _ _
    c.part.ensures c.part-2.ensures c.part-3.ensures c.part-4.ensures c.part-5.ensures c.part-6.ensures c.part-7.ensures c.part-8.ensures
