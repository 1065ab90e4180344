use Rattle.droid_compaction.proofs.whole.end_at.Goals as goal

pub returns-clause-there : goal.returns-clause-there
returns-clause-there g c = λ s here. c.end_in-end.ensures.there _ (c.in-Ok.ensures.read s here)

pub returns-clause-other : goal.returns-clause-other
returns-clause-other g c = λ s here. c.end_in-end.ensures.other _ (c.in-Ok.ensures.read s here)
