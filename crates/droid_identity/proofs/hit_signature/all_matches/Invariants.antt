use Rattle.std.proofs.Common.{◌++◌, List, drop}
use Rattle.std.specs.List.{AllByRecursion}
use Rattle.droid_identity.specs.Matches.{HitsEnds, IsNearestOfEnds}
use Rattle.droid_identity.specs.Bases.{AreMatches}
use Rattle.droid_identity.specs.declared.found_match.Match.{Match}
use Rattle.droid_identity.proofs.hit_signature.all_matches.Given as goal

-- the matches so far and those of what is left are those of all
abbrev pub invariant-loop-sequence : goal.invariant-loop-sequence
invariant-loop-sequence l =
    ((left : List Match) → AreMatches (IsNearestOfEnds l.first l.last) (drop l.sequence-index l.sequences) left → AreMatches (IsNearestOfEnds l.first l.last) l.sequences (l.matches.items ++ left))
    × (AllByRecursion (HitsEnds l.first l.last) l.sequences → AllByRecursion (HitsEnds l.first l.last) (drop l.sequence-index l.sequences))
