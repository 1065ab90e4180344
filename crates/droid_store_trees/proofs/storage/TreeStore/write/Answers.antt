use Rattle.std.proofs.Common.{◌≡◌, ◌∙◌, ℕ, Some, sym, ap, refl, arith, subst}
use Rattle.sqlite_trees.specs.Tree.{with_tree}
use Rattle.sqlite_trees.specs.View.{Snapshot}
use Rattle.sqlite_trees.specs.declared.store.Shape.{Shape}
use Rattle.droid_store_trees.specs.declared.storage.TreeStore.{TreeStore}
use Rattle.droid_store_trees.specs.Edits.{edited, Fits}
use Rattle.droid_store_trees.specs.Shown.{current, shape_of, shown}
use Rattle.droid_store_trees.proofs.Places.{shape_shown}
use Rattle.droid_store_trees.proofs.Seen.{seen}
use Rattle.droid_store_trees.proofs.Showing.{edited_shown}
use Rattle.droid_store_trees.proofs.storage.TreeStore.write.Goals as goal

pub edit-done-requires : goal.edit-done-requires
edit-done-requires c =
    let s = c.args.self.now in
    let same : (shown (current s)).shape c.args.tree ≡ shape_of c.in_ok-forest.forest c.args.tree =
    shape_shown (current s) c.args.tree (omega arith) ∙ sym (ap (λ (f : ℕ → Shape). f c.args.tree) c.in_ok-forest.ensures.ok.shapes) in
    subst (Fits c.args.edit) same c.requires

pub returns-clause-ok : goal.returns-clause-ok
returns-clause-ok c =
    let s = c.args.self.now in
    let t = c.args.tree in
    let edit = edited c.args.edit in
    let took = c.take_changed.new.self in
    let made = c.in_ok-done.ensures in
    let next = λ (x : Snapshot). let y : Snapshot = record x { trees = with_tree x.trees t (edit (x.trees t)) } in y in
    let new : TreeStore = record { alloc = took.alloc; base = took.base; changed = Some c.edit-done.new.self; cursors = c.clear.new.self; marks = took.marks } in
    let after : shown c.edit-done.new.self ≡ next (shown (current s)) =
    edited_shown c.in_ok-forest.forest c.edit-done.new.self t edit (omega arith) made.headings made.version made.ok ∙ ap next c.in_ok-forest.ensures.ok.shown in
    record { sound = refl; is = seen s new (next (shown (current s))) c.take_changed.ensures.rest.0 c.take_changed.ensures.rest.1 after }
