use Rattle.std.proofs.Common.{◌<◌, length, arith}
use Rattle.droid_terminal.proofs.Cutting.{no_end}
use Rattle.droid_terminal.proofs.columns.end_from.Goals as goal

pub returns-in_default : goal.returns-in_default
returns-in_default c =
    λ (within : c.args.from < length c.args.text.now) its.
    no_end c.args.text.now c.args.from c.args.columns (omega arith) c.in_default.ensures.cases its
