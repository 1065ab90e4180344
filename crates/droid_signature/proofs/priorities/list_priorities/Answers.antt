-- The priorities of one more format.
use Rattle.std.proofs.Common.{◌<◌, ℕ, List, take, length, arith}
use Rattle.droid_signature.specs.RegistryTables.{priority_fields}
use Rattle.droid_signature.specs.Formats.{Placed}
use Rattle.droid_signature.specs.Priorities.{LeavesPriority, Priority, TakesPriority, all_priorities, priorities_of}
use Rattle.droid_signature.specs.Views.{all_of, kept_of}
use Rattle.droid_signature.proofs.Sifting.{all_more, fills_new, seen_at, seen_below}
use Rattle.droid_signature.proofs.priorities.list_priorities.Goals as goal

pub loop-place-init : goal.loop-place-init
loop-place-init c = fills_new (TakesPriority (all_of c.args.kept.now)) (LeavesPriority (all_of c.args.kept.now)) priority_fields c.new-table.result c.new-table.ensures

pub loop-place-preserved : goal.loop-place-preserved
loop-place-preserved c =
    let f : ℕ → Placed → List Priority = λ place it. priorities_of place it it.format.priorities in
    let kept = all_of c.args.kept.now in
    let i = c.loop-place.place in
    let below : i < length c.args.kept.now = omega arith in
    all_more f kept i (kept_of c.index-kept-place.result) c.add_priorities.new.table (seen_below kept_of c.args.kept.now i below) (seen_at kept_of c.args.kept.now i c.index-kept-place.result below c.index-kept-place.is)
    (c.in_ok-add_priorities.ensures (all_priorities (take i kept)) c.loop-place.invariant)
