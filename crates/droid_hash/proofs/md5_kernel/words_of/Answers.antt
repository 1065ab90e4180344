use Rattle.std.proofs.Common.{refl}
use Rattle.md5.specs.Md5.{block_words}
use Rattle.droid_hash.proofs.md5_kernel.words_of.Goals as goal

pub returns : goal.returns
unfolding block_words
returns c = λ j low. rw (c.row.ensures j low, c.row-2.ensures j low, c.row-3.ensures j low, c.row-4.ensures j low, c.row-5.ensures j low, c.row-6.ensures j low, c.row-7.ensures j low, c.row-8.ensures j low, c.row-9.ensures j low, c.row-10.ensures j low, c.row-11.ensures j low, c.row-12.ensures j low, c.row-13.ensures j low, c.row-14.ensures j low, c.row-15.ensures j low, c.row-16.ensures j low) refl
