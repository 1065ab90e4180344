-- What a reporter does with what it learns (this project's own).
use Rattle.std.specs.Prelude.{◌≡◌, Some}
use Rattle.droid_tree.specs.Heard.{Heard}
use Rattle.droid_tree.specs.declared.tree_size.Counted.{Counted}
use Rattle.droid_terminal.specs.Estimates.{amount_of}
use Rattle.droid_terminal.specs.Rhythms.{IsReported}
use Rattle.droid_terminal.specs.WalkCounts.{Hears}
use Rattle.droid_terminal.specs.declared.reporter.Reporter.{Reporter}

-- it counts, and prints progress when that is due
abbrev pub ReporterHears : {R : Type 0} → Reporter R → Heard → Reporter R → Type 0
ReporterHears old heard new =
    Hears old.totals heard new.totals × IsReported old.verbosity old.reported new.verbosity new.reported

-- it knows how much there is, and counts on from what it has counted
abbrev pub ReporterExpects : {R : Type 0} → Reporter R → Counted → Reporter R → Type 0
ReporterExpects old counted new = (new.all ≡ Some (amount_of counted)) × (new.totals ≡ old.totals)
