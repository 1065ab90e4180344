use Rattle.std.proofs.Common.{◌∙◌, length, sym}
use Rattle.std.proofs.lemmas.Bool.{eqb-true}
use Rattle.std.proofs.lemmas.List.{nil_from_length}
use Rattle.droid_cmd_verify.proofs.ReadableItems.{read_inventory}
use Rattle.droid_cmd_verify.proofs.readable_items.readable_of.Goals as goal

pub returns-then-is_empty : goal.returns-then-is_empty
returns-then-is_empty c =
    read_inventory c.args.unreadable.now c.args.items (nil_from_length c.args.unreadable.now (eqb-true (length c.args.unreadable.now) 0 (sym c.is_empty.ensures ∙ c.if-is_empty.true))) c.as_slice-items.ensures.in_order
