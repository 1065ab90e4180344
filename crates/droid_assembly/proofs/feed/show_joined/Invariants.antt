-- the pieces before this place are joined
use Rattle.std.proofs.Common.{◌≡◌, take}
use Rattle.std.specs.List.{concat}
use Rattle.droid_assembly.proofs.feed.show_joined.Given as goal

abbrev pub invariant-loop-place : goal.invariant-loop-place
invariant-loop-place l = l.joined ≡ concat (take l.place l.several)
