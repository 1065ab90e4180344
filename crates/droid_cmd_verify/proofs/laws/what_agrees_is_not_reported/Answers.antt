use Rattle.droid_cmd_verify.proofs.Silence.{all_compared, all_silent}
use Rattle.droid_cmd_verify.proofs.laws.what_agrees_is_not_reported.Goals as goal

pub returns-clause-agrees : goal.returns-clause-agrees
returns-clause-agrees c = λ how listed found report l f a b up down is here there same alike moment. all_silent how listed found l f a b up down here there same alike moment report is.right

pub returns-clause-unchecked : goal.returns-clause-unchecked
returns-clause-unchecked c = λ how listed found pairs l f a b up down are here there same hashed. all_compared how listed found l f a b up down here there same hashed pairs are.right
