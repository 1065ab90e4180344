use Rattle.std.proofs.Common.{◌↔◌, drop}
use Rattle.std.specs.List.{AllByRecursion}
use Rattle.droid_pattern.specs.ClassCaches.{AreOf}
use Rattle.droid_pronom.specs.FoundWindows.{HitsWindows}
use Rattle.droid_pronom.proofs.steps.hits.all_hit.Given as goal

-- all hit where all that are left do
abbrev pub invariant-loop-sequence : goal.invariant-loop-sequence
invariant-loop-sequence l = AreOf l.first l.begin × AreOf l.last l.end × (AllByRecursion (HitsWindows l.first l.last) l.sequences ↔ AllByRecursion (HitsWindows l.first l.last) (drop l.sequence-index l.sequences))
