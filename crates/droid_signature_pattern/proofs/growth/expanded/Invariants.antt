-- What the first lists give.
use Rattle.std.proofs.Common.{◌≡◌, take}
use Rattle.droid_signature_pattern.specs.Texts.{joined_all}
use Rattle.droid_signature_pattern.proofs.growth.expanded.Given as goal

abbrev pub invariant-loop-level : goal.invariant-loop-level
invariant-loop-level l = l.growing ≡ joined_all (take l.level-index l.levels)
