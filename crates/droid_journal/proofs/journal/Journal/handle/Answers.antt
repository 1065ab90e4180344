use Rattle.droid_journal.proofs.journal.Journal.handle.Goals as goal

pub returns-in-Ok-clause-handled : goal.returns-in-Ok-clause-handled
returns-in-Ok-clause-handled g c = λ setting header synced all st none. c.in-Ok.ensures.taken setting header synced all st
