use Rattle.std.proofs.Common.{◌≡◌, ◌+◌, ◌++◌, [], ◌∷◌, List, Some, length, length-append, slice_get, ap, subst, arith}
use Rattle.droid_profile.specs.declared.lanes.file_lane.FileLane.{FileLane}
use Rattle.droid_profile.proofs.PassSteps.{limits_push}
use Rattle.droid_profile.proofs.lanes.batch.idle_lanes.Goals as goal

pub loop-preserved : goal.loop-preserved
loop-preserved c =
    let lanes : List FileLane = c.loop.lanes.items in
    let lane = c.in_ok-lane.lane in
    let longer : length (lanes ++ lane ∷ []) ≡ length lanes + 1 = length-append lanes (lane ∷ []) in
    record {
      counted = omega (arith, ap length c.in_ok-push.ensures.items, longer, c.loop.invariant.counted);
      limits = λ j its there.
          limits_push lanes lane c.args.limit c.loop.invariant.limits c.in_ok-lane.ensures j its (subst (λ (l : List FileLane). slice_get l j ≡ Some its) c.in_ok-push.ensures.items there);
    }
