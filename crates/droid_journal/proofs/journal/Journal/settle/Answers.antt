use Rattle.std.proofs.Common.{◌++◌, refl}
use Rattle.droid_journal.specs.Chains.{journal_bytes}
use Rattle.droid_journal.specs.Records.{turn_mark}
use Rattle.droid_journal.specs.Standing.{ahead_bytes}
use Rattle.droid_journal.proofs.Standing.{nothing, settled}
use Rattle.droid_journal.proofs.journal.Journal.settle.Goals as goal

pub returns-in-Some-clause-same : goal.returns-in-Some-clause-same
returns-in-Some-clause-same g c = λ s here. nothing g.F.LogFile.has c.args.self.now.file s (turn_mark c.args.self.now.key c.args.self.now.place.at) here

pub returns-in-Ok-sync-clause-same : goal.returns-in-Ok-sync-clause-same
returns-in-Ok-sync-clause-same g c = λ s here. nothing g.F.LogFile.has c.sync.new.self s (turn_mark c.args.self.now.key c.args.self.now.place.at) (c.sync.ensures.same s here)

pub returns-in-Ok-sync-clause-settled : goal.returns-in-Ok-sync-clause-settled
returns-in-Ok-sync-clause-settled g c = λ setting header synced all st.
    let old = c.args.self.now in
    let start = journal_bytes header all ++ ahead_bytes header all old.ahead in
    settled g.F.LogFile.has g.F.LogFile.kept (g.M.Machine.stands setting) header _ all st.machine (c.sync.ensures.same start st.file) (old.ahead, c.in-Ok-sync.ensures.synced start st.file) st.key st.place st.fit (λ shown. (refl, (st.begins shown).1))

pub returns-in-Err-sync-clause-same : goal.returns-in-Err-sync-clause-same
returns-in-Err-sync-clause-same g c = λ s here. nothing g.F.LogFile.has c.sync.new.self s (turn_mark c.args.self.now.key c.args.self.now.place.at) (c.sync.ensures.same s here)
