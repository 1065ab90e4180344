use Rattle.droid_hash.specs.Lanes.{piece}
use Rattle.droid_hash.proofs.Schedule.{window_of}
use Rattle.droid_hash.proofs.sha256_kernel.words_of.Goals as goal

pub returns : goal.returns
returns c = λ j low. window_of (piece j c.args.blocks) _ _ _ _ _ _ _ _ _ _ _ _ _ _ _ _
    (c.row.ensures j low) (c.row-2.ensures j low) (c.row-3.ensures j low) (c.row-4.ensures j low) (c.row-5.ensures j low) (c.row-6.ensures j low) (c.row-7.ensures j low) (c.row-8.ensures j low) (c.row-9.ensures j low) (c.row-10.ensures j low) (c.row-11.ensures j low) (c.row-12.ensures j low) (c.row-13.ensures j low) (c.row-14.ensures j low) (c.row-15.ensures j low) (c.row-16.ensures j low)
