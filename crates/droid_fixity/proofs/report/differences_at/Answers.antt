use Rattle.std.proofs.Common.{sym, arith}
use Rattle.droid_fixity.specs.Holding.{difference_at, held}
use Rattle.droid_fixity.proofs.Passing.{filter_map_more}
use Rattle.droid_fixity.proofs.report.differences_at.Goals as goal

pub loop-pair-preserved : goal.loop-pair-preserved
loop-pair-preserved c =
    rw (c.in_ok-note_difference.ensures, c.loop-pair.invariant, c.difference_at.ensures)
    (sym (filter_map_more (difference_at c.args.listed.now c.args.found.now (held c.args.missing.now) (held c.args.new.now)) c.args.pairs.now c.loop-pair.pair-index _ (omega arith)))
