use Rattle.droid_cmd_identify.proofs.forms.csv_rows.write_none.Goals as goal

pub returns : goal.returns
returns c = rw (c.as_bytes.ensures.value, c.in_ok-size.ensures.ok, c.as_bytes-2.ensures.value, c.in_ok-basis.ensures) at c.write_fields.ensures
