use Rattle.std.proofs.Common.{◌+◌, ◌-◌, ◌≤◌}
use Rattle.droid_identity.specs.Spans.{IsLeast}
use Rattle.droid_identity.proofs.search.first_offset.Given as goal

-- no match has a lesser offset than `from`
abbrev pub invariant-loop-from : goal.invariant-loop-from
invariant-loop-from l =
    (l.low ≤ l.from)
    × IsLeast l.sequence.offsets.anchor l.sequence.pattern l.bytes l.low l.from

abbrev pub decreases-loop-from : goal.decreases-loop-from
decreases-loop-from l = (l.last + 1) - l.from
