use Rattle.droid_hash.specs.Ends.{Came}
use Rattle.droid_hash.proofs.Growing.{none_came}
use Rattle.droid_hash.proofs.end_bytes.EndBytes.new.Goals as goal

pub returns-clause-empty : goal.returns-clause-empty
unfolding Came
returns-clause-empty c = rw (c.in_ok-first.ensures.items, c.in_ok-last.ensures.items) (none_came c.args.limit 0)
