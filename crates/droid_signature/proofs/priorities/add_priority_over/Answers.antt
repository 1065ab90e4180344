-- A priority is left out, or becomes a row.
use Rattle.std.proofs.Common.{◌∙◌, Some, refl, sym, arith}
use Rattle.droid_signature.specs.RegistryTables.{PriorityRow}
use Rattle.droid_signature.specs.Formats.{puid_in}
use Rattle.droid_signature.specs.Priorities.{Priority}
use Rattle.droid_signature.specs.Views.{kept_of}
use Rattle.droid_signature.specs.declared.left_out.Item.TheVariants as items
use Rattle.droid_signature.specs.declared.left_out.LeftOut.{LeftOut}
use Rattle.droid_signature.specs.declared.left_out.Why.TheVariants as why
use Rattle.droid_signature.proofs.Sifting.{fills_left, fills_taken, seen_there}
use Rattle.droid_signature.proofs.priorities.add_priority_over.Goals as goal

pub returns-then-eq : goal.returns-then-eq
returns-then-eq c = λ xs held fills.
    let x : Priority = record { place = c.args.place; of = kept_of c.args.of.now; id = c.args.id } in
    let left : LeftOut = record { format = Some c.args.of.now.place; item = items.Priority c.args.id; why = why.OverItself } in
    let other = c.index-kept-over.result in
    fills_left x left c.leave_out.new.self fills c.in_ok-leave_out.ensures
    (λ before count. record {
      why = why.OverItself;
      listed = refl;
      holds = (c.args.over, kept_of other, record { held = held; there = seen_there kept_of c.args.kept.now c.args.over other c.requires c.index-kept-over.is }, rw (c.puid_of-puid.ensures, c.puid_of-over_puid.ensures) at (sym c.eq.ensures ∙ c.if-eq.true));
    })

pub returns-then-table-ge-PRIORITIES_LIMIT : goal.returns-then-table-ge-PRIORITIES_LIMIT
returns-then-table-ge-PRIORITIES_LIMIT c = λ xs held fills.
    let x : Priority = record { place = c.args.place; of = kept_of c.args.of.now; id = c.args.id } in
    let left : LeftOut = record { format = Some c.args.of.now.place; item = items.Priority c.args.id; why = why.Full } in
    fills_left x left c.leave_out-then-table-ge-PRIORITIES_LIMIT.new.self fills c.in_ok-leave_out-2.ensures (λ before count. record { why = why.Full; listed = refl; holds = omega arith })

pub returns : goal.returns
returns c = λ xs held fills.
    let x : Priority = record { place = c.args.place; of = kept_of c.args.of.now; id = c.args.id } in
    let other = c.index-kept-over.result in
    let row : PriorityRow = record { place = c.args.place; puid = puid_in c.args.of.now.format.now; over = c.args.over; other = puid_in other.format.now } in
    fills_taken x row c.push.new.self fills (rw (c.puid_of-puid.ensures, c.puid_of-over_puid.ensures) at c.in_ok-push.ensures) (omega arith)
    (λ before count. record {
      over = c.args.over;
      other = kept_of other;
      is = record { held = held; there = seen_there kept_of c.args.kept.now c.args.over other c.requires c.index-kept-over.is };
      same = refl;
      differ = rw (c.puid_of-puid.ensures, c.puid_of-over_puid.ensures) at (sym c.eq.ensures ∙ c.if-eq.false);
      room = omega arith;
    })
