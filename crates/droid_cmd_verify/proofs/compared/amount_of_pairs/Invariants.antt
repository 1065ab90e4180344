use Rattle.std.proofs.Common.{◌≡◌, take}
use Rattle.std.specs.List.{filter_map}
use Rattle.droid_cmd_verify.specs.Compared.{compared_at}
use Rattle.droid_cmd_verify.specs.Summaries.{bytes_from, files_from}
use Rattle.droid_cmd_verify.proofs.compared.amount_of_pairs.Given as goal

abbrev pub invariant-loop-pair : goal.invariant-loop-pair
invariant-loop-pair l = record {
  files : l.amount.files ≡ files_from 0 (filter_map (compared_at l.how l.listed l.found) (take l.pair-index l.pairs));
  bytes : l.amount.bytes ≡ bytes_from l.found 0 (filter_map (compared_at l.how l.listed l.found) (take l.pair-index l.pairs));
}
