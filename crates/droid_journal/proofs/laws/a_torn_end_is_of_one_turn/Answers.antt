use Rattle.droid_journal.proofs.Changes.{torn_end}
use Rattle.droid_journal.proofs.laws.a_torn_end_is_of_one_turn.Goals as goal

pub returns : goal.returns
returns c = λ header file its turn rest form chain some mark. torn_end header file its turn rest form chain some mark
