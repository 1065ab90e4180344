use Rattle.droid_profile.proofs.Moments.{moment_written}
use Rattle.droid_profile.proofs.csv_recipient.CsvRecipient.add.Goals as goal

pub add-requires : goal.add-requires
add-requires g c = moment_written c.args.next.now.modified c.requires
