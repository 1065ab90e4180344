use Rattle.std.proofs.lemmas.Map.Text.{btree_map_updates_str}
use Rattle.droid_lists.proofs.Gathering.{held, items_or, removed}
use Rattle.droid_lists.proofs.format_lists.listed_formats.taken.Goals as goal

pub returns-clause-value : goal.returns-clause-value
returns-clause-value c = rw (c.unwrap_or.ensures, c.remove.ensures.value) (items_or (held c.args.listed.now c.args.path.now) c.new.result c.new.ensures.items)

pub returns-clause-others : goal.returns-clause-others
returns-clause-others c = λ other is.
    removed c.args.listed.now c.remove.new.self c.args.path.now other (btree_map_updates_str c.args.path.now c.args.listed.now c.remove.new.self _ c.remove.ensures.updates other) is
