use Rattle.std.proofs.Common.{◌≡◌, take}
use Rattle.std.specs.List.{filter_map}
use Rattle.droid_cmd_verify.specs.Compared.{moved_to}
use Rattle.droid_cmd_verify.specs.Summaries.{bytes_from, files_from}
use Rattle.droid_cmd_verify.proofs.compared.with_moved.Given as goal

abbrev pub invariant-loop-difference : goal.invariant-loop-difference
invariant-loop-difference l = record {
  files : l.amount.files ≡ files_from l.fn.before.files (filter_map moved_to (take l.difference-index l.differences));
  bytes : l.amount.bytes ≡ bytes_from l.found l.fn.before.bytes (filter_map moved_to (take l.difference-index l.differences));
}
