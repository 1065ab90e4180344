use Rattle.std.proofs.Common.{refl, arith}
use Rattle.droid_frame.specs.Hashes.{hash_kind_number}
use Rattle.droid_store.specs.Encoded.{number}
use Rattle.droid_store.proofs.FaultsOfReading.{hash_kind_is_short}
use Rattle.droid_store.proofs.ReportedFaults.{unread, IsShort}
use Rattle.droid_store.proofs.row_reader.hash_kind_column.Goals as goal

pub returns-in_err-number-clause-memory : goal.returns-in_err-number-clause-memory
returns-in_err-number-clause-memory c p is =
    unread c.from_residual.result c.args.row.now 3 _ IsShort (number (hash_kind_number p.hash)) c.from_residual.ensures.1 c.in_err-number.ensures.named c.in_err-number.ensures.kind (rw is (omega arith)) (rw is refl) (hash_kind_is_short p.hash)
