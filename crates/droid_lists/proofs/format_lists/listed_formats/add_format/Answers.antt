use Rattle.std.proofs.lemmas.Map.Text.{btree_map_updates_str}
use Rattle.droid_lists.proofs.Gathering.{one_added}
use Rattle.droid_lists.proofs.format_lists.listed_formats.add_format.Goals as goal

pub returns : goal.returns
returns c = λ path.
    let set = btree_map_updates_str c.as_slice-path.result.now c.taken-formats.new.listed c.insert.new.self _ c.in_ok-insert.ensures.updates path in
    one_added c.args.listed.now c.taken-formats.new.listed c.insert.new.self c.args.row.now path c.add_copy.new.copies (rw c.as_slice-path.ensures.value at set)
    (rw c.as_slice-path.ensures.value at (c.taken-formats.ensures.others path))
    (rw (c.taken-formats.ensures.value, c.as_slice-path.ensures.value, c.as_slice.ensures.value) at c.in_ok-add_copy.ensures)
