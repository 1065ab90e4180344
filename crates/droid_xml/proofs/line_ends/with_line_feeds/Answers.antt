use Rattle.std.proofs.Common.{sym, ◌∙◌}
use Rattle.droid_xml.proofs.LineFeeds.{with_feeds}
use Rattle.droid_xml.proofs.line_ends.with_line_feeds.Goals as goal

pub returns-then-not-contains : goal.returns-then-not-contains
returns-then-not-contains c = with_feeds c.args.text.now (sym c.contains.ensures.value ∙ c.if-not-contains.true)
