use Rattle.std.proofs.Common.{refl}
use Rattle.droid_lists.proofs.list_content.list_by.Goals as goal

pub returns-in-Ok-clause-says : goal.returns-in-Ok-clause-says
returns-in-Ok-clause-says c = (refl, c.in-Ok.ensures.says, rw c.as_slice.ensures.value at c.hash_in-hash.ensures)
