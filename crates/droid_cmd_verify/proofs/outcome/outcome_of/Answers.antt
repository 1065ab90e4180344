use Rattle.droid_cmd_verify.proofs.outcome.outcome_of.Goals as goal

pub returns : goal.returns
returns c = record {
  findings = c.in_ok-findings.findings.items;
  are = rw (c.as_slice.ensures.value, c.in_ok-changes.ensures) at c.in_ok-findings.ensures;
  has = rw (c.is_some.ensures, c.as_slice-2.ensures.value) at c.in_ok-outcome.ensures;
}
