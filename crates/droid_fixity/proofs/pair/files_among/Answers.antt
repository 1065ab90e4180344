use Rattle.std.proofs.Common.{sym, arith}
use Rattle.droid_fixity.specs.Holding.{file_pair}
use Rattle.droid_fixity.proofs.Passing.{filter_map_more}
use Rattle.droid_fixity.proofs.pair.files_among.Goals as goal

pub loop-pair-preserved : goal.loop-pair-preserved
loop-pair-preserved c =
    rw (c.in_ok-note_file.ensures, c.loop-pair.invariant, c.file_pair.ensures)
    (sym (filter_map_more (file_pair c.args.listed.now c.args.found.now) c.args.pairs.now c.loop-pair.pair-index _ (omega arith)))
