-- Past the end, and where the cells decide.
use Rattle.std.proofs.Common.{sym, arith}
use Rattle.std.specs.List.{flat_map}
use Rattle.droid_pattern.specs.Cells.{elements_at}
use Rattle.droid_pattern.proofs.HeadLemmas.{reported_within}
use Rattle.droid_pattern.proofs.pattern.Pattern.settled_from.Goals as goal

pub returns : goal.returns
returns c =
    reported_within c.settled_at.result c.args.self.now (flat_map (elements_at c.deref-2.result.now) c.deref.result.now) c.args.bytes.now c.args.at
    (rw (c.deref.ensures.value, c.deref-2.ensures.value) (sym c.self.view_is)) (omega arith) c.settled_at.ensures
