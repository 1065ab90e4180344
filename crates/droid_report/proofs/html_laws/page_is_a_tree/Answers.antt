use Rattle.droid_report.proofs.Pages.{page_framed}
use Rattle.droid_report.proofs.html_laws.page_is_a_tree.Goals as goal

pub returns : goal.returns
returns c = page_framed
