use Rattle.droid_journal.proofs.Chains.{turn_shows}
use Rattle.droid_journal.proofs.laws.a_later_turn_shows.Goals as goal

pub returns : goal.returns
returns c = λ header before last it rest form fit first. turn_shows header before last it rest form fit first
