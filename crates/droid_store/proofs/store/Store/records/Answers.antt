use Rattle.droid_store.specs.Kept.{kept}
use Rattle.droid_store.proofs.RecordsByNumber.{records_by_number}
use Rattle.droid_store.proofs.store.Store.records.Goals as goal

pub returns-clause-by_number : goal.returns-clause-by_number
returns-clause-by_number c = rw c.in_ok-records.ensures.found (records_by_number c.args.profile (kept c.self.inside.conn).nodes c.self.invariant.1.numbers)
