use Rattle.droid_recovery.proofs.Ended.{are_ended}
use Rattle.droid_recovery.proofs.smaller_laws.its_bare_files_have_ended.Goals as goal

pub returns : goal.returns
returns c = λ setting bare ended its history have were first. are_ended setting bare its history have were ended first
