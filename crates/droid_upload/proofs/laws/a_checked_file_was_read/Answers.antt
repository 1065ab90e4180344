use Rattle.droid_upload.proofs.CheckedFiles.{checked_read}
use Rattle.droid_upload.proofs.laws.a_checked_file_was_read.Goals as goal

pub returns : goal.returns
returns c = λ into entry outcome file may asked is. checked_read into entry file outcome may asked is
