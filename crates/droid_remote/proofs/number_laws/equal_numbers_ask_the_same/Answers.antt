use Rattle.droid_remote.proofs.Sharing.{equal_numbers}
use Rattle.droid_remote.proofs.number_laws.equal_numbers_ask_the_same.Goals as goal

pub returns : goal.returns
returns c = equal_numbers
