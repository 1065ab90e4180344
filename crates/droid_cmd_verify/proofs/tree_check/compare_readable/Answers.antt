use Rattle.droid_cmd_verify.proofs.ReadableItems.{twice_among}
use Rattle.droid_cmd_verify.proofs.tree_check.compare_readable.Goals as goal

pub returns-in-Err-clause-ended : goal.returns-in-Err-clause-ended
returns-in-Err-clause-ended c =
    twice_among c.args.unreadable.now c.args.items.items c.in-Err.same.path (rw c.in_ok-keep_readable.ensures at c.in-Err.ensures.twice)
