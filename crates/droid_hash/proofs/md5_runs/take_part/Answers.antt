use Rattle.droid_hash.specs.Lanes.{lane, piece}
use Rattle.droid_hash.proofs.Parts.{part_long, part_taken}
use Rattle.droid_hash.proofs.md5_runs.take_part.Goals as goal

pub compress_run-requires : goal.compress_run-requires
compress_run-requires c = λ j low.
    part_long c.args.at c.args.count (piece j c.args.runs) c.args.filler.now _ (c.parts.ensures j low) c.requires.filled (c.requires.inside j low)

pub returns : goal.returns
returns c = λ j low.
    part_taken c.args.at c.args.count (piece j c.args.runs) c.args.filler.now _ _ (lane j c.args.state.now) _ _
    (c.parts.ensures j low) (c.going.ensures j low) (c.compress_run.ensures j low) (c.chosen.ensures j low)
