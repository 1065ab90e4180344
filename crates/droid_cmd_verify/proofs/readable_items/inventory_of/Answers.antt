use Rattle.droid_cmd_verify.proofs.ReadableItems.{never_twice}
use Rattle.droid_cmd_verify.proofs.readable_items.inventory_of.Goals as goal

pub unreachable-requires : goal.unreachable-requires
unreachable-requires c = never_twice c.args.items.items c.in-Err.field-0.path c.requires c.in-Err.ensures.twice
