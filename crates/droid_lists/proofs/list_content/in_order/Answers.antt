use Rattle.std.proofs.Common.{refl}
use Rattle.droid_lists.proofs.list_content.in_order.Goals as goal

pub returns-in-Ok : goal.returns-in-Ok
returns-in-Ok c = (c.args.items.items, refl, record { same = c.in-Ok.ensures.same; in_order = c.as_slice-items.ensures.in_order })

pub returns-in-Err : goal.returns-in-Err
returns-in-Err c = (c.args.items.items, refl, c.in-Err.ensures.twice)
