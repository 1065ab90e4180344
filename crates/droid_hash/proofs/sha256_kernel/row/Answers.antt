use Rattle.sha2.specs.Sha256.{word_at}
use Rattle.droid_hash.proofs.Four.{four_results}
use Rattle.droid_hash.proofs.sha256_kernel.row.Goals as goal

pub returns : goal.returns
returns c = four_results (λ b. b.now) (λ b. word_at b c.args.at) c.args.blocks _ 0 _ _ _ _ c.load_be.ensures c.load_be-2.ensures c.load_be-3.ensures c.load_be-4.ensures
