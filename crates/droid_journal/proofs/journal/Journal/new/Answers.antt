use Rattle.std.proofs.Common.{refl}
use Rattle.droid_journal.proofs.Standing.{settled}
use Rattle.droid_journal.proofs.journal.Journal.new.Goals as goal

pub returns-clause-settled : goal.returns-clause-settled
returns-clause-settled g c = λ setting header records ready.
    settled g.F.LogFile.has g.F.LogFile.kept (g.M.Machine.stands setting) header _ records ready.machine ready.file_is ready.on_disk ready.key ready.place ready.fit (λ shown. (refl, ready.begins shown))
