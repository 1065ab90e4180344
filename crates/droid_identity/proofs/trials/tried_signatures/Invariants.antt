use Rattle.std.proofs.Common.{◌++◌, List, drop}
use Rattle.droid_identity.specs.Matches.{HitsEnds, IsNearestOfEnds}
use Rattle.droid_identity.specs.Trials.{Trials}
use Rattle.droid_identity.specs.declared.trials.Trial.{Trial}
use Rattle.droid_identity.proofs.trials.tried_signatures.Given as goal

-- the trials so far and those of what is left are those of all
abbrev pub invariant-loop-number : goal.invariant-loop-number
invariant-loop-number l =
    (left : List Trial) → Trials (IsNearestOfEnds l.first l.last) (HitsEnds l.first l.last) l.place l.number (drop l.number l.signatures) left
    → Trials (IsNearestOfEnds l.first l.last) (HitsEnds l.first l.last) l.place 0 l.signatures (l.trials.items ++ left)
