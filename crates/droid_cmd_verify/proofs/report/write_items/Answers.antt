use Rattle.droid_cmd_verify.proofs.report.write_items.Goals as goal

pub returns : goal.returns
returns c =
    rw (c.as_bytes.ensures.value, c.in_ok-size.ensures, c.as_slice.ensures, c.hash_text-hash.ensures, c.path_text.ensures, c.as_bytes-2.ensures.value, c.in_ok-found_size.ensures, c.as_slice-2.ensures, c.hash_text-found_hash.ensures)
    at c.write_fields.ensures
