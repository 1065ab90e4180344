use Rattle.std.proofs.Common.{◌≡◌, ◌≤◌, true, length, drop, nat_lt, refl, ap, arith, rules}
use Rattle.std.proofs.lemmas.List.{length-drop}
use Rattle.droid_profile.specs.TurnsLeft.{end_left}
use Rattle.droid_profile.proofs.TurnSteps.{end_most, far_is}
use Rattle.droid_profile.proofs.lanes.lane_reader.take_piece.Goals as goal

-- the last bytes came
pub returns-then-ended-clause-moves : goal.returns-then-ended-clause-moves
returns-then-ended-clause-moves c =
    let lane = c.args.lane.now in
    let rest : length (drop lane.hashed lane.buffer.items) ≤ c.len-count.result = omega (arith, length-drop lane.hashed lane.buffer.items, c.len-count.ensures, c.args.lane.now.buffer.ok.0) in
    let ended : nat_lt c.len-count.result c.from.result ≡ true = search rules in
    (refl, omega (arith, rest, far_is, c.saturating_add-lane.ensures, c.saturating_sub-left.ensures, c.if-count-left.false, c.ranges.size.fits, ap end_left ended))

-- some bytes came, and the file goes on
pub returns-else-ended-clause-moves : goal.returns-else-ended-clause-moves
returns-else-ended-clause-moves c =
    let lane = c.args.lane.now in
    let rest : length (drop lane.hashed lane.buffer.items) ≤ c.len-count.result = omega (arith, length-drop lane.hashed lane.buffer.items, c.len-count.ensures, c.args.lane.now.buffer.ok.0) in
    (refl, omega (arith, rest, far_is, c.saturating_add-lane.ensures, c.saturating_sub-left.ensures, c.if-count-left.false, c.ranges.size.fits, c.requires.wanted, c.from.ensures, c.if-ended.false, end_most (nat_lt c.len-count.result c.from.result)))
