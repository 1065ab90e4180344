use Rattle.std.proofs.Common.{sym, arith}
use Rattle.droid_cmd_verify.specs.Compared.{compared_at}
use Rattle.droid_cmd_verify.proofs.Counting.{bytes_given, files_given}
use Rattle.droid_cmd_verify.proofs.compared.amount_of_pairs.Goals as goal

pub loop-pair-preserved : goal.loop-pair-preserved
loop-pair-preserved c =
    let listed = c.args.listed.now in
    let found = c.args.found.now in
    record {
      files = rw (c.with_place-amount.ensures.files, c.loop-pair.invariant.files, c.compared_at.ensures) (sym (files_given (compared_at c.args.how listed found) c.args.pairs.now c.loop-pair.pair-index _ 0 (omega arith)));
      bytes = rw (c.with_place-amount.ensures.bytes, c.loop-pair.invariant.bytes, c.compared_at.ensures) (sym (bytes_given found (compared_at c.args.how listed found) c.args.pairs.now c.loop-pair.pair-index _ 0 (omega arith)));
    }
