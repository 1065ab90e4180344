use Rattle.droid_hash.proofs.Eight.{below_eight}
use Rattle.droid_hash.proofs.eight_tails.used_of.Goals as goal

pub returns-clause-value : goal.returns-clause-value
returns-clause-value c = below_eight _ c.used_of.ensures.value c.used_of-2.ensures.value c.used_of-3.ensures.value c.used_of-4.ensures.value c.used_of-5.ensures.value c.used_of-6.ensures.value c.used_of-7.ensures.value c.used_of-8.ensures.value

pub returns-clause-short : goal.returns-clause-short
returns-clause-short c = below_eight _ c.used_of.ensures.short c.used_of-2.ensures.short c.used_of-3.ensures.short c.used_of-4.ensures.short c.used_of-5.ensures.short c.used_of-6.ensures.short c.used_of-7.ensures.short c.used_of-8.ensures.short
