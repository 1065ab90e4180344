use Rattle.droid_wire.specs.Histories.{Start}
use Rattle.droid_wire.proofs.Accepting.{never_new}
use Rattle.droid_wire.proofs.Journals.{answers_in, kept_after}
use Rattle.droid_wire.proofs.service_journal.ServiceJournal.handle.Goals as goal

pub returns-clause-handled : goal.returns-clause-handled
returns-clause-handled g c = λ setting header synced all stood none.
    let start : Start = record { setting = setting; base = stood.base } in
    let h = c.handle.ensures.handled start header stood.first stood.records stood.stands none in
    answers_in g.F.LogFile.has g.F.LogFile.kept setting header c.args.self.now.journal c.handle.new.self synced all c.args.frame c.handle.result h.0 h.1 stood h.2 h.3

pub returns-clause-keeps : goal.returns-clause-keeps
returns-clause-keeps g c = λ setting header synced all stood.
    let start : Start = record { setting = setting; base = stood.base } in
    kept_after g.F.LogFile.has g.F.LogFile.kept setting header c.args.self.now.journal c.handle.new.self synced all c.args.frame c.handle.result stood c.handle.ensures.kept (λ some. (c.handle.ensures.closed some).0)
    (c.handle.ensures.handled start header stood.first stood.records stood.stands) (c.handle.ensures.part start header stood.first stood.records stood.stands)

pub returns-clause-repeats : goal.returns-clause-repeats
returns-clause-repeats g c = λ setting header synced all stood known.
    let start : Start = record { setting = setting; base = stood.base } in
    c.handle.ensures.unwritten start stood.records stood.stands.machine (λ reply gives. never_new setting stood.base stood.records all c.args.frame reply stood.accepted known gives)
