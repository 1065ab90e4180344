use Rattle.std.specs.List.{filter_map}
use Rattle.droid_cmd_verify.specs.Compared.{compared_at, moved_to}
use Rattle.droid_cmd_verify.proofs.Counting.{bytes_both, files_both}
use Rattle.droid_cmd_verify.proofs.compared.compared_amount.Goals as goal

pub returns-clause-files : goal.returns-clause-files
returns-clause-files c =
    rw (c.with_moved.ensures.files, c.amount_of_pairs-pairs.ensures.files, c.as_slice-listed.ensures.value, c.as_slice-found.ensures.value, c.as_slice.ensures.value, c.as_slice-2.ensures.value)
    (files_both 0 (filter_map (compared_at c.args.how c.args.checked.now.listed c.args.checked.now.found) c.args.checked.now.files.items) (filter_map moved_to c.args.checked.now.differences.items))

pub returns-clause-bytes : goal.returns-clause-bytes
returns-clause-bytes c =
    rw (c.with_moved.ensures.bytes, c.amount_of_pairs-pairs.ensures.bytes, c.as_slice-listed.ensures.value, c.as_slice-found.ensures.value, c.as_slice.ensures.value, c.as_slice-2.ensures.value)
    (bytes_both c.args.checked.now.found 0 (filter_map (compared_at c.args.how c.args.checked.now.listed c.args.checked.now.found) c.args.checked.now.files.items) (filter_map moved_to c.args.checked.now.differences.items))
