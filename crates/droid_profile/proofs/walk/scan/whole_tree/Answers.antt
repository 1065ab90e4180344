use Rattle.std.proofs.Common.{refl}
use Rattle.droid_profile.proofs.ScanBegun.{scan_begun}
use Rattle.droid_profile.proofs.walk.scan.whole_tree.Goals as goal

pub returns-clause-fits : goal.returns-clause-fits
returns-clause-fits c = λ registry options. scan_begun registry options _ c.in_ok-waiting.ensures c.new-2.ensures.items refl
