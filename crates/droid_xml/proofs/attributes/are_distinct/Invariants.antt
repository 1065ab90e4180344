use Rattle.std.proofs.Common.{◌≡◌, drop, map}
use Rattle.droid_xml.specs.Attributes.{are_distinct}
use Rattle.droid_xml.specs.Views.{setting}
use Rattle.droid_xml.proofs.attributes.are_distinct.Given as goal

-- no name so far stands again
abbrev pub invariant-loop-place : goal.invariant-loop-place
invariant-loop-place l = are_distinct (map setting (drop l.place l.attributes)) ≡ are_distinct (map setting l.attributes)
