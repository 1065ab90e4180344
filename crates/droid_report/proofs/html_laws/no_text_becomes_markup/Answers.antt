use Rattle.droid_report.proofs.HtmlReading.{page_read}
use Rattle.droid_report.proofs.html_laws.no_text_becomes_markup.Goals as goal

pub returns : goal.returns
returns c = page_read
