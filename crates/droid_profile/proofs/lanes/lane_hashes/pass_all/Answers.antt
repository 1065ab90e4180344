use Rattle.std.proofs.Common.{◌<◌, length, refl, arith}
use Rattle.std.proofs.lemmas.Option.{slice_get_read}
use Rattle.droid_profile.proofs.PassSteps.{all_passed, none_passed, one_passed}
use Rattle.droid_profile.proofs.lanes.lane_hashes.pass_all.Goals as goal

pub loop-lane-init : goal.loop-lane-init
loop-lane-init c = none_passed c.args.lanes.now.items c.args.count

pub loop-lane-preserved : goal.loop-lane-preserved
loop-lane-preserved c =
    let now = c.loop-lane.lanes.items in
    let within : c.loop-lane.lane < length now =
    omega (arith, c.loop-lane-test.true, c.len-lane-end.ensures, c.loop-lane.invariant.counted, c.args.lanes.now.ok.0, c.loop-lane.lanes.ok.0) in
    let lane = c.index_mut.result.now in
    one_passed c.args.lanes.now.items now c.args.count c.loop-lane.lane lane c.pass.new.self c.loop-lane.invariant within
    (slice_get_read now (length now) c.loop-lane.lane lane refl within c.index_mut.ensures.value) c.pass.ensures

pub returns : goal.returns
returns c =
    all_passed c.args.lanes.now.items c.loop-lane.lanes.items c.args.count c.loop-lane.lane c.loop-lane.invariant
    (omega (arith, c.loop-lane-test.false, c.len-lane-end.ensures, c.args.lanes.now.ok.0))
