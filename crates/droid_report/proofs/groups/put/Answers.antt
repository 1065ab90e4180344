use Rattle.std.proofs.Common.{◌∙◌, bytes_eq, option_map, string_bytes, ap}
use Rattle.std.specs.BTreeMap.{get_by_text}
use Rattle.std.proofs.lemmas.Map.Text.{btree_map_updates_text}
use Rattle.droid_report.specs.Groups.{summed}
use Rattle.droid_report.proofs.Grouping.{map_chosen}
use Rattle.droid_report.proofs.groups.put.Goals as goal

pub returns : goal.returns
returns c = λ other.
    ap (option_map summed) (btree_map_updates_text (string_bytes c.args.key) c.args.groups.now c.insert.new.self _ c.in_ok-insert.ensures.updates other)
    ∙ map_chosen summed (bytes_eq (string_bytes c.args.key) other) c.args.sum (get_by_text c.args.groups.now other)
