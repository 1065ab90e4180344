use Rattle.droid_pronom.proofs.FoundTests.{found_is}
use Rattle.droid_pronom.proofs.laws.an_answer_is_found.Goals as goal

pub returns : goal.returns
returns c registry name file scan_limit match_all = found_is registry name file scan_limit match_all
