use Rattle.std.proofs.Common.{◌-◌, ◌≤◌}
use Rattle.droid_pattern.specs.ClassCaches.{AreOf}
use Rattle.droid_identity.specs.Spans.{Between, IsLeast}
use Rattle.droid_identity.proofs.search.least_offset.Given as goal

-- it matches at an offset from `least` to `most`, and at none below
abbrev pub invariant-loop-least : goal.invariant-loop-least
invariant-loop-least l =
    (l.least ≤ l.most)
    × (l.most ≤ l.high)
    × AreOf l.bytes l.classes
    × Between l.sequence.offsets.anchor l.sequence.pattern l.bytes l.least l.most
    × IsLeast l.sequence.offsets.anchor l.sequence.pattern l.bytes 0 l.least

abbrev pub decreases-loop-least : goal.decreases-loop-least
decreases-loop-least l = l.most - l.least
