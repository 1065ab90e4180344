use Rattle.md5.specs.Md5.{word_at}
use Rattle.droid_hash.proofs.Eight.{eight_results}
use Rattle.droid_hash.proofs.md5_kernel.row.Goals as goal

pub returns : goal.returns
returns c = eight_results (λ b. b.now) (λ b. word_at b c.args.at) c.args.blocks _ 0 _ _ _ _ _ _ _ _ c.load_le.ensures c.load_le-2.ensures c.load_le-3.ensures c.load_le-4.ensures
    c.load_le-5.ensures c.load_le-6.ensures c.load_le-7.ensures c.load_le-8.ensures
