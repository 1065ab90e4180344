use Rattle.std.proofs.Common.{◌/◌, [], length}
use Rattle.std.specs.Simd.{first_chunks}
use Rattle.droid_hash.proofs.Four.{four_results}
use Rattle.droid_hash.proofs.four_tails.chunks.Goals as goal

pub returns : goal.returns
returns c = four_results (λ x. x.now) (λ x. first_chunks 64 (length x / 64) x) c.args.rests _ [] _ _ _ _
    c.chunks.ensures c.chunks-2.ensures c.chunks-3.ensures c.chunks-4.ensures
