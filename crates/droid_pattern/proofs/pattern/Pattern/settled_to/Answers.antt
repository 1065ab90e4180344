-- Before the beginning, and where the cells decide.
use Rattle.std.proofs.Common.{sym, arith}
use Rattle.droid_pattern.proofs.TailLemmas.{ended_within}
use Rattle.droid_pattern.proofs.pattern.Pattern.settled_to.Goals as goal

pub returns : goal.returns
returns c =
    ended_within c.settled_before.result c.args.self.now c.self.inside.packed.pool.items c.deref.result.now c.args.bytes.now c.args.offset _
    (rw c.deref.ensures.value (sym c.self.view_is)) (omega arith) c.settled_before.ensures
