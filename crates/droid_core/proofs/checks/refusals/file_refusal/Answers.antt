use Rattle.std.proofs.Common.{sym}
use Rattle.droid_core.proofs.Sizes.{sizes}
use Rattle.droid_core.proofs.checks.refusals.file_refusal.Goals as goal

pub returns-clause-sizes : goal.returns-clause-sizes
returns-clause-sizes c = λ scan_limit at. sizes c.args.version c.args.size c.args.piece_size scan_limit (sym c.if-not-is_piece_size.ensures.same) (sym c.if-is_too_large.ensures) at
