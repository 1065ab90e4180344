use Rattle.std.proofs.Common.{sym, arith}
use Rattle.droid_fixity.specs.Holding.{only_found}
use Rattle.droid_fixity.proofs.Passing.{filter_map_more}
use Rattle.droid_fixity.proofs.report.places_only_found.Goals as goal

pub loop-pair-preserved : goal.loop-pair-preserved
loop-pair-preserved c =
    rw (c.in_ok-note_place.ensures, c.loop-pair.invariant, c.only_found.ensures) (sym (filter_map_more only_found c.args.pairs.now c.loop-pair.pair-index _ (omega arith)))
