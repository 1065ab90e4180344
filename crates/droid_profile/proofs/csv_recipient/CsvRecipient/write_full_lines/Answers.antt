use Rattle.droid_profile.proofs.csv_recipient.CsvRecipient.write_full_lines.Goals as goal

pub returns-clause-rows : goal.returns-clause-rows
returns-clause-rows g c = c.write_list.ensures.rows.1
