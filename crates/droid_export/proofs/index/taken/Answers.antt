use Rattle.std.specs.BTreeMap.{get_by_text}
use Rattle.std.proofs.lemmas.Map.Text.{btree_map_updates_text}
use Rattle.droid_export.proofs.IndexContents.{items_or, removed}
use Rattle.droid_export.proofs.index.taken.Goals as goal

pub returns-clause-value : goal.returns-clause-value
returns-clause-value c = rw (c.unwrap_or.ensures, c.remove.ensures.value) (items_or (get_by_text c.args.named.now c.args.text.now) c.new.result c.new.ensures.items)

pub returns-clause-others : goal.returns-clause-others
returns-clause-others c = λ other is.
    removed c.args.named.now c.remove.new.self c.args.text.now other (btree_map_updates_text c.args.text.now c.args.named.now c.remove.new.self _ c.remove.ensures.updates other) is
