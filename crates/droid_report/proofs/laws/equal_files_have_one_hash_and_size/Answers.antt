use Rattle.droid_report.proofs.Contents.{content_from, content_to}
use Rattle.droid_report.proofs.laws.equal_files_have_one_hash_and_size.Goals as goal

pub returns : goal.returns
returns c = λ one other small large. (content_from one other small large, content_to one other)
