use Rattle.std.proofs.Common.{◌∙◌}
use Rattle.droid_arguments.proofs.IdentifyRefusals.{dashes_behind}
use Rattle.droid_arguments.proofs.identify.dashes.Goals as goal

pub returns : goal.returns
returns c = c.count_dashes.ensures ∙ dashes_behind c.args.files.now
