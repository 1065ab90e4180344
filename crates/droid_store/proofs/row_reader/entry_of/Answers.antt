use Rattle.std.proofs.Common.{refl, arith}
use Rattle.droid_store.proofs.FaultsOfReading.{still_memory}
use Rattle.droid_store.proofs.row_reader.entry_of.Goals as goal

pub returns-in_err-mark-clause-memory : goal.returns-in_err-mark-clause-memory
returns-in_err-mark-clause-memory c e is fits = still_memory c.from_residual-in_err-mark.result _ c.from_residual-in_err-mark.ensures.1 (c.in_err-mark.ensures.memory e.mark (rw is (omega arith)) (rw is refl) fits.mark)
