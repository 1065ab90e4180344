use Rattle.droid_lines.proofs.Printing.{finished_is}
use Rattle.droid_lines.proofs.printer.finished_text.Goals as goal

pub returns : goal.returns
returns c =
    finished_is c.format.result c.args.method c.args.mismatch c.args.hash.now c.args.puids.now _ _ _ c.method_text-method.ensures
    c.in_ok-digits.ensures c.in_ok-puids.ensures c.format.ensures.ok
