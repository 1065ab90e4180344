use Rattle.std.proofs.Common.{◌∙◌, ◌++◌, List, get_or, ap, arith}
use Rattle.droid_report.specs.ShownClasses.{class_row}
use Rattle.droid_report.specs.Seen.{Seen}
use Rattle.droid_report.proofs.RowSteps.{more_at}
use Rattle.droid_report.proofs.view.class_rows.all_rows.Goals as goal

pub loop-class-preserved : goal.loop-class-preserved
loop-class-preserved c =
    c.in_ok-add_class.ensures
    ∙ (ap (λ (rows : List (List Seen)). rows ++ class_row c.args.by c.args.most c.loop-class.class (get_or c.args.counts.now c.loop-class.class 0)) c.loop-class.invariant
    ∙ more_at (class_row c.args.by c.args.most) c.args.counts.now c.loop-class.class 0 (omega arith))
