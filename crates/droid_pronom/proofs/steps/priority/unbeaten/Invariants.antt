use Rattle.std.proofs.Common.{◌≡◌, ◌++◌, drop}
use Rattle.droid_pronom.specs.FoundWindows.{without}
use Rattle.droid_pronom.proofs.steps.priority.unbeaten.Given as goal

-- what was pushed, and what is left
abbrev pub invariant-loop-place : goal.invariant-loop-place
invariant-loop-place l = l.left.items ++ without (drop l.place l.hit) (drop l.place l.beaten) ≡ without l.hit l.beaten
