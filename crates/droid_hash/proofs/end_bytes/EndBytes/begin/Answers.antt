use Rattle.droid_hash.specs.Ends.{Came}
use Rattle.droid_hash.proofs.Growing.{none_came}
use Rattle.droid_hash.proofs.end_bytes.EndBytes.begin.Goals as goal

pub returns-clause-empty : goal.returns-clause-empty
unfolding Came
returns-clause-empty c = rw (c.clear.ensures.items, c.clear-2.ensures.items) (none_came c.self.inside.limit c.args.size)
