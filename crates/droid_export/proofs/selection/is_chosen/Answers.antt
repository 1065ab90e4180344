use Rattle.std.proofs.Common.{◌∙◌}
use Rattle.droid_export.proofs.IndexContents.{joined_flags}
use Rattle.droid_export.proofs.selection.is_chosen.Goals as goal

pub returns : goal.returns
returns c =
    let flags = c.as_slice.ensures.value ∙ c.in_ok-met.ensures in
    rw (c.are_set.ensures, flags) (joined_flags c.args.filter.now c.args.node.now (λ none. let is = c.is_empty.ensures.1 none in cc))
