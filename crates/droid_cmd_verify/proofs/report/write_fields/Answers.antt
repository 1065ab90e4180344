use Rattle.droid_cmd_verify.proofs.report.write_fields.Goals as goal

pub returns : goal.returns
returns c = rw (c.name_of.ensures, c.as_slice.ensures.value, c.as_slice-2.ensures.value, c.as_slice-3.ensures.value, c.reason_of.ensures) at c.write_record.ensures
