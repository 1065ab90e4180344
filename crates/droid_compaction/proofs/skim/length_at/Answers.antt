use Rattle.std.proofs.Common.{◌∙◌, drop}
use Rattle.droid_compaction.proofs.Skimming.{number_read}
use Rattle.droid_compaction.proofs.skim.length_at.Goals as goal

pub returns-in-Ok-clause-there : goal.returns-in-Ok-clause-there
returns-in-Ok-clause-there g c = λ s rest n here lt is. c.length_in.ensures ∙ number_read _ (drop c.args.at s) rest n lt (c.in-Ok.ensures.read s here) is
