use Rattle.std.proofs.Common.{[]}
use Rattle.droid_report.proofs.Pages.{tree_more}
use Rattle.droid_report.proofs.html_laws.text_goes_on.Goals as goal

pub returns : goal.returns
returns c = λ tree rest. tree_more tree [] rest
