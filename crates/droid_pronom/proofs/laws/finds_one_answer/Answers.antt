use Rattle.droid_pronom.specs.Found.{Hits}
use Rattle.droid_pronom.proofs.FoundOnce.{found_once}
use Rattle.droid_pronom.proofs.laws.finds_one_answer.Goals as goal

pub returns : goal.returns
returns c registry name file scan_limit match_all one other a b = found_once (Hits file scan_limit) registry name match_all one other a b
