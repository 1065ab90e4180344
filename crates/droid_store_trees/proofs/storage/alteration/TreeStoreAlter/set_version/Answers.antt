use Rattle.std.proofs.Common.{◌≡◌, ◌∙◌, Some, ap, refl}
use Rattle.sqlite_trees.proofs.StoreLemmas.{version_twice}
use Rattle.sqlite_trees.specs.Tree.{with_tree}
use Rattle.sqlite_trees.specs.Objects.{version_tree, version_rows}
use Rattle.sqlite_trees.specs.View.{Snapshot}
use Rattle.droid_store_trees.specs.declared.forest.Forest.{Forest}
use Rattle.droid_store_trees.specs.declared.storage.TreeStore.{TreeStore}
use Rattle.droid_store_trees.specs.Shown.{current, shown}
use Rattle.droid_store_trees.proofs.Seen.{seen}
use Rattle.droid_store_trees.proofs.Showing.{listed}
use Rattle.droid_store_trees.proofs.storage.alteration.TreeStoreAlter.set_version.Goals as goal

pub returns-clause-ok : goal.returns-clause-ok
returns-clause-ok c _ =
    let s = c.args.self.now in
    let took = c.take_changed.new.self in
    let forest = c.in_ok-forest.forest in
    let made : Forest = record { trees = forest.trees; version = c.args.version } in
    let next = λ (x : Snapshot). let y : Snapshot = record x { trees = with_tree x.trees version_tree (version_rows c.args.version) } in y in
    let new : TreeStore = record { alloc = took.alloc; base = took.base; changed = Some made; cursors = c.clear.new.self; marks = took.marks } in
    let now : shown made ≡ next (shown forest) = λ i. record (shown forest) { trees = version_twice (listed forest) forest.version c.args.version i } in
    record { sound = refl; is = seen s new (next (shown (current s))) c.take_changed.ensures.rest.0 c.take_changed.ensures.rest.1 (now ∙ ap next c.in_ok-forest.ensures.ok.shown) }
