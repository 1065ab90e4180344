use Rattle.std.proofs.lemmas.Result.{IfOk-weaker}
use Rattle.droid_journal.proofs.Lawful.{lawful}
use Rattle.droid_journal.proofs.Openings.{found_between}
use Rattle.droid_journal.proofs.start.open.Goals as goal

pub returns-clause-reopened : goal.returns-clause-reopened
returns-clause-reopened g c = λ setting s synced written here fresh fits front chance.
    IfOk-weaker c.open_by.result _ _ (λ opened found.
    let between = found_between c.args.header.now s found.0 synced written found.1 fits front chance in
    (found.0, (found.2 setting fresh).0, between.0, between.1)) (c.open_by.ensures.opened s here)

pub returns-clause-lawful : goal.returns-clause-lawful
returns-clause-lawful g c = λ s synced written n here fits front turn none reported.
    let damaged = c.open_by.ensures.damage n reported s here in
    lawful c.args.header.now s synced written damaged.its damaged.rest fits front turn none damaged.chain damaged.later
