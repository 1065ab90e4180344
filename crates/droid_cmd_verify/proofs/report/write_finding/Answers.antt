use Rattle.droid_cmd_verify.proofs.report.write_finding.Goals as goal

pub returns : goal.returns
returns c = rw (c.listed_of-before.ensures, c.found_of-after.ensures) at c.write_items.ensures
