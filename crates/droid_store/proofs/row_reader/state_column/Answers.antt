use Rattle.std.proofs.Common.{refl, arith}
use Rattle.droid_store.specs.Encoded.{number, state_number}
use Rattle.droid_store.proofs.FaultsOfReading.{state_is_short}
use Rattle.droid_store.proofs.ReportedFaults.{unread, IsShort}
use Rattle.droid_store.proofs.row_reader.state_column.Goals as goal

pub returns-in_err-number-clause-memory : goal.returns-in_err-number-clause-memory
returns-in_err-number-clause-memory c n is =
    unread c.from_residual.result c.args.row.now 3 _ IsShort (number (state_number n.state)) c.from_residual.ensures.1 c.in_err-number.ensures.named c.in_err-number.ensures.kind (rw is (omega arith)) (rw is refl) (state_is_short n.state)
