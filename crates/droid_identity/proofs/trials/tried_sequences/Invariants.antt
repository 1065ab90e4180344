use Rattle.std.proofs.Common.{◌++◌, List, Option, drop}
use Rattle.droid_identity.specs.Matches.{HitsEnds, IsNearestOfEnds}
use Rattle.droid_identity.specs.declared.found_match.Match.{Match}
use Rattle.droid_identity.specs.Trials.{AreTried}
use Rattle.droid_identity.proofs.trials.tried_sequences.Given as goal

-- what was found so far and what is found of the rest is found of all
abbrev pub invariant-loop-sequence : goal.invariant-loop-sequence
invariant-loop-sequence l =
    (left : List (Option Match)) → AreTried (IsNearestOfEnds l.first l.last) (HitsEnds l.first l.last) (drop l.sequence-index l.sequences) left
    → AreTried (IsNearestOfEnds l.first l.last) (HitsEnds l.first l.last) l.sequences (l.matches.items ++ left)
