use Rattle.droid_terminal.proofs.skipped.skipped_text.write_entry.Goals as goal

pub returns : goal.returns
returns c = rw (c.as_slice.ensures.value, c.as_bytes.ensures.value, c.cause.ensures) at c.write_pair.ensures
