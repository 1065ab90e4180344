-- There is one format with the ID, or not.
use Rattle.std.proofs.Common.{Some, refl}
use Rattle.droid_signature.specs.Priorities as spec
use Rattle.droid_signature.specs.Priorities.{Priority}
use Rattle.droid_signature.specs.Views.{all_of, kept_of}
use Rattle.droid_signature.specs.declared.left_out.Item.TheVariants as items
use Rattle.droid_signature.specs.declared.left_out.LeftOut.{LeftOut}
use Rattle.droid_signature.proofs.FormatIds.{holder_reason, other_within}
use Rattle.droid_signature.proofs.Sifting.{fills_left}
use Rattle.droid_signature.proofs.priorities.add_priority.Goals as goal

pub add_priority_over-requires : goal.add_priority_over-requires
add_priority_over-requires c = other_within c.args.kept.now c.args.id c.in-Ok.over (c.in-Ok.ensures.ok (spec.ids_of (all_of c.args.kept.now)) c.requires)

pub returns-in_ok-leave_out-in-Err : goal.returns-in_ok-leave_out-in-Err
returns-in_ok-leave_out-in-Err c = λ xs fills.
    let kept = all_of c.args.kept.now in
    let x : Priority = record { place = c.args.place; of = kept_of c.args.of.now; id = c.args.id } in
    let left : LeftOut = record { format = Some c.args.of.now.place; item = items.Priority c.args.id; why = c.in-Err.why } in
    fills_left x left c.leave_out.new.self fills c.in_ok-leave_out-in-Err.ensures
    (λ before count. record { why = c.in-Err.why; listed = refl; holds = holder_reason kept before (kept_of c.args.of.now) c.args.id c.in-Err.why (c.in-Err.ensures.err (spec.ids_of kept) c.requires) })

pub returns-in_ok-add_priority_over-in-Ok : goal.returns-in_ok-add_priority_over-in-Ok
returns-in_ok-add_priority_over-in-Ok c = λ xs fills. c.in_ok-add_priority_over-in-Ok.ensures xs (c.in-Ok.ensures.ok (spec.ids_of (all_of c.args.kept.now)) c.requires) fills
