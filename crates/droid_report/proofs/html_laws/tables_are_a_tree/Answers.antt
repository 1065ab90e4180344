use Rattle.droid_report.proofs.TableTexts.{body_own}
use Rattle.droid_report.proofs.html_laws.tables_are_a_tree.Goals as goal

pub returns : goal.returns
returns c = body_own
