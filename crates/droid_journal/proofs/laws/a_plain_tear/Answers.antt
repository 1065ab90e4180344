use Rattle.droid_journal.proofs.Chains.{plain_tear}
use Rattle.droid_journal.proofs.laws.a_plain_tear.Goals as goal

pub returns : goal.returns
returns c = λ header written file fits torn. plain_tear header written file fits torn
