use Rattle.droid_journal.proofs.Changes.{change_shows}
use Rattle.droid_journal.proofs.laws.a_change_before_the_last_mark_shows.Goals as goal

pub returns : goal.returns
returns c = λ header other its form fits size differs chance read rest chain. change_shows header other its form size differs chance read rest chain
