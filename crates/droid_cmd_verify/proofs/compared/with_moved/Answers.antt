use Rattle.std.proofs.Common.{sym, arith}
use Rattle.droid_cmd_verify.specs.Compared.{moved_to}
use Rattle.droid_cmd_verify.proofs.Counting.{bytes_given, files_given}
use Rattle.droid_cmd_verify.proofs.compared.with_moved.Goals as goal

pub loop-difference-preserved : goal.loop-difference-preserved
loop-difference-preserved c = record {
  files = rw (c.with_place-amount.ensures.files, c.loop-difference.invariant.files, c.moved_to.ensures) (sym (files_given moved_to c.args.differences.now c.loop-difference.difference-index _ c.args.before.files (omega arith)));
  bytes = rw (c.with_place-amount.ensures.bytes, c.loop-difference.invariant.bytes, c.moved_to.ensures) (sym (bytes_given c.args.found.now moved_to c.args.differences.now c.loop-difference.difference-index _ c.args.before.bytes (omega arith)));
}
