use Rattle.std.proofs.Common.{◌-◌, ◌≤◌, length}
use Rattle.droid_identity.specs.Spans.{Reaches, IsLeastReach}
use Rattle.droid_identity.proofs.reach.least_reach.Given as goal

-- the shortest match reaches at least as far as `least`, and at most as far as `most`
abbrev pub invariant-loop-least : goal.invariant-loop-least
invariant-loop-least l =
    (l.least ≤ l.most)
    × (l.most ≤ length l.bytes)
    × Reaches l.sequence.offsets.anchor l.sequence.pattern l.bytes 0 l.most
    × IsLeastReach l.sequence.offsets.anchor l.sequence.pattern l.bytes 0 l.least

abbrev pub decreases-loop-least : goal.decreases-loop-least
decreases-loop-least l = l.most - l.least
