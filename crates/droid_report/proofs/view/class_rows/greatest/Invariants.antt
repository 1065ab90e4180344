use Rattle.std.proofs.Common.{◌≡◌, take}
use Rattle.droid_report.specs.ShownClasses.{greatest}
use Rattle.droid_report.proofs.view.class_rows.greatest.Given as goal

abbrev pub invariant-loop-count : goal.invariant-loop-count
invariant-loop-count l = l.most ≡ greatest (take l.count-index l.counts)
