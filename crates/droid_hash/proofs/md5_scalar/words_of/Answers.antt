use Rattle.std.proofs.Common.{refl}
use Rattle.md5.specs.Md5.{block_words}
use Rattle.droid_hash.proofs.md5_scalar.words_of.Goals as goal

pub returns : goal.returns
unfolding block_words
returns c = rw (c.load_le.ensures, c.load_le-2.ensures, c.load_le-3.ensures, c.load_le-4.ensures, c.load_le-5.ensures, c.load_le-6.ensures, c.load_le-7.ensures, c.load_le-8.ensures, c.load_le-9.ensures, c.load_le-10.ensures, c.load_le-11.ensures, c.load_le-12.ensures, c.load_le-13.ensures, c.load_le-14.ensures, c.load_le-15.ensures, c.load_le-16.ensures) refl
