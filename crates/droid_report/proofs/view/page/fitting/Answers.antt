use Rattle.std.proofs.Common.{string_bytes, arith}
use Rattle.droid_report.specs.ShownReports.{IsPageOf}
use Rattle.droid_report.proofs.Fitting.{next_limit}
use Rattle.droid_report.proofs.view.page.fitting.Goals as goal

pub loop-limit-preserved : goal.loop-limit-preserved
loop-limit-preserved c = λ text later.
    c.loop-limit.invariant text (next_limit (IsPageOf c.args.title.now c.args.about.now c.args.counts.now c.args.orders.now) c.args.limits.now c.loop-limit.limit-index
    (string_bytes c.in_ok-page.page) text (omega arith) c.in_ok-page.ensures (omega (arith, c.len.ensures)) later)
