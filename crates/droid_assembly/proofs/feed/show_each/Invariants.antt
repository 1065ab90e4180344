-- the front was shown the pieces before this place
use Rattle.std.proofs.Common.{◌≡◌, ℕ, ◌++◌, List, take}
use Rattle.std.specs.List.{concat}
use Rattle.droid_assembly.specs.Fronts.{IsFront, FrontKnows}
use Rattle.droid_frame.specs.RunningHashes.{running_kind}
use Rattle.droid_assembly.proofs.feed.show_each.Given as goal

abbrev pub invariant-loop-place : goal.invariant-loop-place
invariant-loop-place l = record {
  sound : IsFront l.front;
  width : l.front.width ≡ l.fn.front.width;
  kind : running_kind l.front.hash ≡ running_kind l.fn.front.hash;
  knows : (before : List ℕ) → FrontKnows l.fn.front before → FrontKnows l.front (before ++ concat (take l.place l.several));
}
