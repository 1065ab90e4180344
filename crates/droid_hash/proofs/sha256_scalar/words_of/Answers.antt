use Rattle.droid_hash.proofs.Schedule.{window_of}
use Rattle.droid_hash.proofs.sha256_scalar.words_of.Goals as goal

pub returns : goal.returns
returns c = window_of c.args.block.now _ _ _ _ _ _ _ _ _ _ _ _ _ _ _ _
    c.load_be.ensures c.load_be-2.ensures c.load_be-3.ensures c.load_be-4.ensures c.load_be-5.ensures c.load_be-6.ensures c.load_be-7.ensures c.load_be-8.ensures c.load_be-9.ensures c.load_be-10.ensures c.load_be-11.ensures c.load_be-12.ensures c.load_be-13.ensures c.load_be-14.ensures c.load_be-15.ensures c.load_be-16.ensures
