use Rattle.droid_cmd_serve.proofs.smaller_journal.header_of.Goals as goal

pub returns-in-Ok-clause-is_of : goal.returns-in-Ok-clause-is_of
returns-in-Ok-clause-is_of g c = λ s here. c.in-Ok.ensures.is_of s here

pub returns-in-Ok-clause-same : goal.returns-in-Ok-clause-same
returns-in-Ok-clause-same g c = λ s header here is_of has. c.in-Ok.ensures.same s header here is_of has
