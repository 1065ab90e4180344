use Rattle.std.proofs.Common.{refl, arith}
use Rattle.droid_frame.specs.Fields.{method_number}
use Rattle.droid_store.specs.Encoded.{number}
use Rattle.droid_store.proofs.FaultsOfReading.{method_is_short}
use Rattle.droid_store.proofs.ReportedFaults.{unread, IsShort}
use Rattle.droid_store.proofs.row_reader.method_column.Goals as goal

pub returns-in_err-number-clause-memory : goal.returns-in_err-number-clause-memory
returns-in_err-number-clause-memory c n is =
    unread c.from_residual.result c.args.row.now 6 _ IsShort (number (method_number n.method)) c.from_residual.ensures.1 c.in_err-number.ensures.named c.in_err-number.ensures.kind (rw is (omega arith)) (rw is refl) (method_is_short n.method)
