use Rattle.droid_journal.proofs.Standing.{left_out, nothing}
use Rattle.droid_journal.proofs.journal.Journal.append.Goals as goal

pub returns-in_default-clause-part : goal.returns-in_default-clause-part
returns-in_default-clause-part g c = λ s here. nothing g.F.LogFile.has c.args.self.now.file s (left_out c.args.self.now.ahead c.args.self.now.room.items) here
