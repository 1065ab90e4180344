use Rattle.droid_upload.proofs.CheckedFiles.{held_unsent}
use Rattle.droid_upload.proofs.laws.a_finished_file_is_not_sent.Goals as goal

pub returns : goal.returns
returns c = λ into path entry number found holding countable may. held_unsent into path entry number found countable holding may
