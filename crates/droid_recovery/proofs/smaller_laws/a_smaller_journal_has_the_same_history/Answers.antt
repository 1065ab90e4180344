use Rattle.std.proofs.Common.{[]}
use Rattle.droid_recovery.proofs.SmallerRecords.{goes}
use Rattle.droid_recovery.proofs.Stamps.{no_stamps}
use Rattle.droid_recovery.proofs.smaller_laws.a_smaller_journal_has_the_same_history.Goals as goal

pub returns : goal.returns
returns c = λ setting bare ended its history have. goes setting bare ended its [] [] history no_stamps have
