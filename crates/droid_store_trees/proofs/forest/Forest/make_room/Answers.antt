use Rattle.std.proofs.Common.{refl}
use Rattle.droid_store_trees.specs.declared.forest.Forest.{Forest}
use Rattle.droid_store_trees.proofs.Showing.{alike_on, alike_push, alike_items}
use Rattle.droid_store_trees.proofs.forest.Forest.make_room.Goals as goal

pub loop-alloc-preserved : goal.loop-alloc-preserved
loop-alloc-preserved c =
    let mid = c.loop-alloc.self in
    let new : Forest = record { trees = c.push.new.self; version = mid.version } in
    alike_on c.args.self.now mid new c.loop-alloc.invariant (alike_push mid new c.in_ok-absent.field-0 c.in_ok-absent.ensures.heading c.in_ok-absent.ensures.rows c.in_ok-push.ensures.items refl)

pub returns-in_err-push-clause-same : goal.returns-in_err-push-clause-same
returns-in_err-push-clause-same c =
    let mid = c.loop-alloc.self in
    let new : Forest = record { trees = c.push.new.self; version = mid.version } in
    alike_on c.args.self.now mid new c.loop-alloc.invariant (alike_items mid new c.in_err-push.ensures.items refl)
