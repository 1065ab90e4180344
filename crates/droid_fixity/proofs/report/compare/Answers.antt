use Rattle.droid_fixity.specs.Holding.{held}
use Rattle.droid_fixity.proofs.Whole.{report_is}
use Rattle.droid_fixity.proofs.report.compare.Goals as goal

pub returns : goal.returns
returns c =
    let losses = rw (c.as_slice-3.ensures.value, c.as_slice-4.ensures.value, c.in_ok-missing_places.ensures, c.as_slice.ensures.value) at c.in_ok-missing.ensures in
    let arrivals = rw (c.as_slice-5.ensures.value, c.as_slice-6.ensures.value, c.in_ok-new_places.ensures, c.as_slice-2.ensures.value) at c.in_ok-new.ensures in
    rw (c.in_ok-report.ensures, c.as_slice-listed.ensures.value, c.as_slice-found.ensures.value, c.as_slice-7.ensures.value)
    (report_is c.args.listed.now c.args.found.now c.in_ok-pairs.pairs.items (held c.in_ok-missing.missing) (held c.in_ok-new.new) c.in_ok-pairs.ensures c.as_slice-3.ensures.in_order c.as_slice-5.ensures.in_order losses arrivals)
