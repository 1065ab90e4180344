use Rattle.droid_export.proofs.FlagMarks.{all_set}
use Rattle.droid_export.proofs.selection.are_set.Goals as goal

pub returns-then-all : goal.returns-then-all
returns-then-all c = rw (c.if-all.true, c.contains.ensures.value) (all_set c.args.flags.now)
