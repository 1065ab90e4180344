use Rattle.std.proofs.Common.{List, ℕ, drop}
use Rattle.droid_report.specs.ShownReports.{IsFirstToFit, IsPageOf}
use Rattle.droid_report.proofs.view.page.fitting.Given as goal

-- what fits by the limits that are left fits by all
abbrev pub invariant-loop-limit : goal.invariant-loop-limit
invariant-loop-limit l = (text : List ℕ) → IsFirstToFit (IsPageOf l.title l.about l.counts l.orders) (drop l.limit-index l.limits) text → IsFirstToFit (IsPageOf l.title l.about l.counts l.orders) l.limits text
