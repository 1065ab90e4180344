use Rattle.std.proofs.Common.{◌∙◌, List, ap, arith, sym}
use Rattle.std.proofs.lemmas.List.{nil_from_length}
use Rattle.droid_terminal.specs.declared.skipped.skipped_entry.SkippedEntry.{SkippedEntry}
use Rattle.droid_cmd_verify.specs.CheckedTrees.{readable_in}
use Rattle.droid_cmd_verify.proofs.ReadableItems.{all_read}
use Rattle.droid_cmd_verify.proofs.readable_items.keep_readable.Goals as goal

pub returns-else-unreadable-gt0 : goal.returns-else-unreadable-gt0
returns-else-unreadable-gt0 c =
    let none = nil_from_length c.args.unreadable.now (omega (arith, c.if-unreadable-gt0.false)) in
    sym (ap (λ (u : List SkippedEntry). readable_in u c.args.items.now.items) none ∙ all_read c.args.items.now.items)
