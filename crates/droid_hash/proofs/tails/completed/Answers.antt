use Rattle.std.proofs.Common.{arith, ◌∙◌}
use Rattle.droid_hash.proofs.Blocks.{one_chunk}
use Rattle.droid_hash.proofs.tails.completed.Goals as goal

pub returns-then-used-joining-eq64-clause-full : goal.returns-then-used-joining-eq64-clause-full
returns-then-used-joining-eq64-clause-full c = λ _. c.as_chunks.ensures.front ∙ one_chunk c.args.block.now (omega arith)
