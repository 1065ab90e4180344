use Rattle.std.proofs.Common.{refl}
use Rattle.droid_lists.specs.TextReading.{IsFaultOf}
use Rattle.droid_remote.proofs.Handing.{if_err_same}
use Rattle.droid_cmd_submit.proofs.profile_comparison.compare_with.Goals as goal

pub returns-clause-compared : goal.returns-clause-compared
returns-clause-compared c = record {
  profile = refl;
  text = refl;
  known = c.in_ok-known.ensures;
  differs = rw (c.as_slice-2.ensures.value, c.as_slice-3.ensures.value) at c.in_ok-differences.ensures.checked;
  reported = rw (c.as_slice-4.ensures.value, c.as_slice-5.ensures.value) at c.in_ok-reported.ensures;
  whole = rw c.as_slice-6.ensures.value at c.is_whole.ensures;
  unread = rw c.as_slice.ensures.value at c.unread_in-unread.ensures;
  suggested = c.is_suggested.ensures;
}

pub returns-in_err-differences-clause-wrong : goal.returns-in_err-differences-clause-wrong
returns-in_err-differences-clause-wrong c =
    if_err_same c.from_residual-in_err-differences.result c.in_err-differences.field-0.0 (λ fault. IsFaultOf c.args.hash c.args.csv.items fault) c.from_residual-in_err-differences.ensures.1
    (rw c.as_slice-3.ensures.value at c.in_err-differences.ensures.wrong)
