use Rattle.std.proofs.Common.{slice_index_or, []}
use Rattle.droid_hash.specs.Lanes.{lane8, piece}
use Rattle.droid_hash.specs.Sha256.{Holds, state_of}
use Rattle.droid_hash.proofs.Sha256Updating.{lane_updates}
use Rattle.droid_hash.proofs.sha256_lanes.Sha256Lanes.update_all.Goals as goal

pub returns : goal.returns
unfolding Holds
returns c = λ j low m held.
    lane_updates _ _ _ (lane8 j (state_of c.args.self.now)) _ _ (slice_index_or c.args.self.now.tails j []) _ _ m (piece j c.args.pieces) _ _ _
    held.0 held.1 (c.longer.ensures j low) (c.used_of-used.ensures.value j low) (c.joined-blocks.ensures j low)
    (c.completed.ensures.full j low) (c.completed.ensures.none j low) (c.take_runs.ensures j low) (c.rests-rests.ensures j low)
    (c.chunks.ensures j low) (c.take_runs-2.ensures j low) (c.kept.ensures j low)
