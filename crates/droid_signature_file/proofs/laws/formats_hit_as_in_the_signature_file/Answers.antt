-- By the law of formats.
use Rattle.droid_signature_file.proofs.Formats.{format_hits}
use Rattle.droid_signature_file.proofs.laws.formats_hit_as_in_the_signature_file.Goals as goal

pub returns : goal.returns
returns c = λ records format registry all place file scan_limit is stand. format_hits records format registry all place file scan_limit is stand
