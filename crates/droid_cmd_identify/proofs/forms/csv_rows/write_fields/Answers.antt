use Rattle.droid_cmd_identify.proofs.forms.csv_rows.write_fields.Goals as goal

pub returns : goal.returns
returns c =
    rw (c.as_bytes.ensures.value, c.method_text.ensures, c.mismatch_text.ensures, c.as_bytes-2.ensures.value, c.as_bytes-3.ensures.value, c.as_bytes-4.ensures.value, c.as_bytes-5.ensures.value, c.digits_of.ensures)
    at c.write_record.ensures
