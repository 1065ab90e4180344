use Rattle.std.proofs.Common.{sym, arith}
use Rattle.droid_fixity.specs.Holding.{only_listed}
use Rattle.droid_fixity.proofs.Passing.{filter_map_more}
use Rattle.droid_fixity.proofs.report.places_only_listed.Goals as goal

pub loop-pair-preserved : goal.loop-pair-preserved
loop-pair-preserved c =
    rw (c.in_ok-note_place.ensures, c.loop-pair.invariant, c.only_listed.ensures) (sym (filter_map_more only_listed c.args.pairs.now c.loop-pair.pair-index _ (omega arith)))
