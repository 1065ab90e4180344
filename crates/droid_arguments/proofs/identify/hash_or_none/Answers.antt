use Rattle.droid_arguments.proofs.identify.hash_or_none.Goals as goal

pub returns-in-Some : goal.returns-in-Some
returns-in-Some c = rw c.in-Some.is (rw c.in-Some.is at c.hash_of.ensures)
