-- By its parts.
use Rattle.droid_signature.proofs.Made.{made_of}
use Rattle.droid_signature.proofs.conversion.make.Goals as goal

pub returns : goal.returns
returns c = made_of c.args.file.now c.in_ok-tables.tables c.in_ok-csv.csv.items c.in_ok-left_out.left_out.items c.taken_of.result c.in_ok-tables.ensures c.in_ok-csv.ensures c.in_ok-left_out.ensures c.taken_of.ensures
