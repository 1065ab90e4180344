use Rattle.std.proofs.Common.{◌∙◌, bytes_eq, option_map, ap}
use Rattle.std.specs.BTreeMap.{get_by_text}
use Rattle.std.proofs.lemmas.Map.Text.{btree_map_updates_text}
use Rattle.droid_report.specs.Groups.{summed}
use Rattle.droid_report.proofs.Grouping.{map_others}
use Rattle.droid_report.proofs.groups.taken.Goals as goal

pub returns-clause-others : goal.returns-clause-others
returns-clause-others c = λ other is.
    ap (option_map summed) (btree_map_updates_text c.args.key.now c.args.groups.now c.remove.new.self _ c.remove.ensures.updates other)
    ∙ map_others summed (bytes_eq c.args.key.now other) (get_by_text c.args.groups.now other) is
