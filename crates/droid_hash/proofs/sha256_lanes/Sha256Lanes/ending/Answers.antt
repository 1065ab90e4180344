use Rattle.std.proofs.Common.{◌-◌, ◌%◌, ◌++◌, ◌∷◌, List, ℕ, [], replicate, take, slice_index, slice_index_or, refl, ap, ◌∙◌}
use Rattle.droid_hash.specs.Lanes.{lane8}
use Rattle.droid_hash.specs.Sha256.{Holds, state_of}
use Rattle.droid_hash.proofs.Sha256Ending.{lane_ends}
use Rattle.droid_hash.proofs.sha256_lanes.Sha256Lanes.ending.Goals as goal

pub returns-clause-ends : goal.returns-clause-ends
unfolding Holds
returns-clause-ends c = λ m h held eh.
    let i : ℕ = c.args.index in
    let front : List ℕ = take c.used_of.result (slice_index_or c.args.self.now.tails i []) ++ (0x80 ∷ replicate ((119 - c.used_of.result) % 64) 0) in
    lane_ends (slice_index c.args.self.now.totals i) c.used_of.result (lane8 i (state_of c.args.self.now)) h (slice_index_or c.args.self.now.tails i []) _ _ m _
    held.0 held.1 c.used_of.ensures.value (c.ending.ensures.bytes ∙ ap (λ (x : List ℕ). front ++ x) c.to_be_bytes.ensures) refl eh refl
