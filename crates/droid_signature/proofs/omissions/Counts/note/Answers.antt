-- One more is counted, if it is a signature of a format.
use Rattle.std.proofs.Common.{sym}
use Rattle.droid_signature.proofs.Omitting.{with_none, with_one}
use Rattle.droid_signature.proofs.omissions.Counts.note.Goals as goal

pub returns-in_ok-add-in-Some : goal.returns-in_ok-add-in-Some
returns-in_ok-add-in-Some c = λ left are. with_one left c.args.it.now c.in-Some.place c.args.self.now c.add.new.self (sym c.in-Some.ensures) are c.in_ok-add-in-Some.ensures

pub returns-in-None : goal.returns-in-None
returns-in-None c = λ left are. with_none left c.args.it.now c.args.self.now (sym c.in-None.ensures) are
