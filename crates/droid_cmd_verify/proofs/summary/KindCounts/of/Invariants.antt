use Rattle.std.proofs.Common.{◌≡◌, take}
use Rattle.droid_cmd_verify.specs.Summaries.{counts_of}
use Rattle.droid_cmd_verify.proofs.summary.KindCounts.of.Given as goal

abbrev pub invariant-loop-finding : goal.invariant-loop-finding
invariant-loop-finding l = l.counts ≡ counts_of (take l.finding-index l.findings)
