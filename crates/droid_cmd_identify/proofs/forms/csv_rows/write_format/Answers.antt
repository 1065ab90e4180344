use Rattle.droid_cmd_identify.proofs.forms.csv_rows.write_format.Goals as goal

pub returns : goal.returns
returns c =
    rw (c.as_bytes.ensures.value, c.in_ok-size.ensures.ok, c.fields_of-format.ensures.puid, c.fields_of-format.ensures.mime, c.fields_of-format.ensures.name, c.fields_of-format.ensures.version, c.as_bytes-2.ensures.value, c.in_ok-basis.ensures.ok)
    at c.write_fields.ensures
