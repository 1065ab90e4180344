use Rattle.droid_pronom.proofs.steps.hits.hits.Goals as goal

pub returns-in-Bof-clause-found : goal.returns-in-Bof-clause-found
returns-in-Bof-clause-found c = rw c.in-Bof.is c.begins_with.ensures.found

pub returns-in-Eof-clause-found : goal.returns-in-Eof-clause-found
returns-in-Eof-clause-found c = rw c.in-Eof.is c.ends_with.ensures.found
