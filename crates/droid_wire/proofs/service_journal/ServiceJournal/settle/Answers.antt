use Rattle.std.proofs.lemmas.Result.{on_ok_weaker}
use Rattle.droid_wire.proofs.Journals.{settled_in}
use Rattle.droid_wire.proofs.service_journal.ServiceJournal.settle.Goals as goal

pub returns-clause-settled : goal.returns-clause-settled
returns-clause-settled g c = λ setting header synced all stood.
    on_ok_weaker c.settle.result (settled_in g.F.LogFile.has g.F.LogFile.kept setting header c.args.self.now.journal c.settle.new.self synced all stood) (c.settle.ensures.settled (record { setting = setting; base = stood.base }) header stood.first stood.records stood.stands)
