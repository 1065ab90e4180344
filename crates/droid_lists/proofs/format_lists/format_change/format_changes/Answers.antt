use Rattle.std.proofs.Common.{◌∙◌}
use Rattle.droid_lists.proofs.Gathering.{same_changes}
use Rattle.droid_lists.proofs.format_lists.format_change.format_changes.Goals as goal

pub returns : goal.returns
returns c = c.in_ok-changes.ensures ∙ same_changes c.in_ok-listed.listed c.args.rows.now c.args.files.now c.in_ok-listed.ensures
