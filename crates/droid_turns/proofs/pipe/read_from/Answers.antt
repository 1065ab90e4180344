use Rattle.droid_turns.proofs.pipe.read_from.Goals as goal

pub returns-in-Ok-eq0-clause-reported : goal.returns-in-Ok-eq0-clause-reported
returns-in-Ok-eq0-clause-reported g c = λ start counts. (c.read_some.new.retries, c.in-Ok-eq0.ensures.counts start (rw c.new-retries.ensures counts))

pub returns-in-Ok-clause-reported : goal.returns-in-Ok-clause-reported
returns-in-Ok-clause-reported g c = λ start counts. (c.read_some.new.retries, c.in-Ok.ensures.counts start (rw c.new-retries.ensures counts))

pub returns-in-Err-clause-reported : goal.returns-in-Err-clause-reported
returns-in-Err-clause-reported g c = λ start counts. c.in-Err.ensures.counts start (rw c.new-retries.ensures counts)
