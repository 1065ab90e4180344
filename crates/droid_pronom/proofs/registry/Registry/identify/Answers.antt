use Rattle.std.proofs.lemmas.Result.{IfOk-weaker}
use Rattle.droid_pronom.specs.FoundWindows.{HitsWindows}
use Rattle.droid_pronom.proofs.FoundSteps.{found_few, found_puids}
use Rattle.droid_pronom.proofs.FoundFile.{found_in_file}
use Rattle.droid_pronom.proofs.registry.Registry.identify.Goals as goal

pub returns-clause-found : goal.returns-clause-found
returns-clause-found c =
    IfOk-weaker c.identify_windows.result _ _ (λ found is file scan_limit size reached begins ends.
    found_in_file file c.args.first.now c.args.last.now scan_limit
    (record { same = c.requires.same; reached = rw size reached; begins = begins; ends = rw size ends })
    c.args.self.now c.args.name.now c.args.match_all found is) c.identify_windows.ensures

pub returns-clause-few : goal.returns-clause-few
returns-clause-few c =
    IfOk-weaker c.identify_windows.result _ _ (λ found is. found_few (HitsWindows c.args.first.now c.args.last.now) c.args.self.now c.args.name.now c.args.match_all found c.len.ensures.rules is) c.identify_windows.ensures

pub returns-clause-puids : goal.returns-clause-puids
returns-clause-puids c =
    IfOk-weaker c.identify_windows.result _ _ (λ found is. found_puids (HitsWindows c.args.first.now c.args.last.now) c.args.self.now c.args.name.now c.args.match_all found c.len.ensures.rules is) c.identify_windows.ensures
