use Rattle.droid_hash.proofs.Four.{below_four}
use Rattle.droid_hash.proofs.four_tails.used_of.Goals as goal

pub returns-clause-value : goal.returns-clause-value
returns-clause-value c = below_four _ c.used_of.ensures.value c.used_of-2.ensures.value c.used_of-3.ensures.value c.used_of-4.ensures.value

pub returns-clause-short : goal.returns-clause-short
returns-clause-short c = below_four _ c.used_of.ensures.short c.used_of-2.ensures.short c.used_of-3.ensures.short c.used_of-4.ensures.short
