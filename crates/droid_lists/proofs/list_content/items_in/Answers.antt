use Rattle.droid_lists.proofs.list_content.items_in.Goals as goal

pub returns-in-Ok-clause-says : goal.returns-in-Ok-clause-says
returns-in-Ok-clause-says c = rw c.in-Checksum.is c.in-Ok.ensures

pub returns-in-Err-clause-says : goal.returns-in-Err-clause-says
returns-in-Err-clause-says c = rw c.in-Checksum.is c.in-Err.ensures
