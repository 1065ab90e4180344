use Rattle.std.specs.Str.{bytes_eq}
use Rattle.std.proofs.lemmas.Map.Text.{btree_map_updates_str}
use Rattle.droid_terminal.proofs.SkippedPaths.{held_more}
use Rattle.droid_terminal.proofs.skipped.skipped_paths.add_path.Goals as goal

pub returns : goal.returns
returns c = λ path.
    let set = btree_map_updates_str c.as_slice.result.now c.args.paths.now c.insert.new.self _ c.in_ok-insert.ensures.updates path in
    held_more _ _ (bytes_eq c.args.entry.now.path path) (rw c.as_slice.ensures.value at set)
