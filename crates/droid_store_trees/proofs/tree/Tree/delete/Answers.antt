use Rattle.std.proofs.Common.{◌∙◌, to_z-of_z}
use Rattle.std.proofs.lemmas.Result.{on_ok_weaker}
use Rattle.sqlite_value.specs.declared.value.Value.TheVariants.{Int}
use Rattle.sqlite_value.specs.Order.{value_cmp}
use Rattle.sqlite_trees.specs.Tree.{rowid}
use Rattle.sqlite_trees.specs.View.{IsShaped}
use Rattle.sqlite_trees.proofs.TreeLemmas.{IsShaped-filter}
use Rattle.sqlite_trees.proofs.MemoryLemmas.{shaped, cut_below_rowid}
use Rattle.droid_store_trees.proofs.Removals.{held, removed, kept, table_apart}
use Rattle.droid_store_trees.proofs.tree.Tree.delete.Goals as goal

pub place-at-requires : goal.place-at-requires
place-at-requires c = let was = rw c.requires at (shaped _ _ c.args.self.now.ordered) in cut_below_rowid _ _ was.0

pub returns-then-has_rowid_at-clause-ok : goal.returns-then-has_rowid_at-clause-ok
returns-then-has_rowid_at-clause-ok c =
    let was = rw c.requires at (shaped _ _ c.args.self.now.ordered) in
    let fits = c.ranges.id in
    let place = simp to_z-of_z at c.place-at.ensures in
    let test = simp to_z-of_z at c.if-has_rowid_at.ensures in
    let out = removed (λ r. value_cmp (rowid r) (Int c.args.id)) _ _ (table_apart (Int c.args.id) _ was.0) place test.0 test.1 in
    on_ok_weaker c.remove.result (λ e. e ∙ out) c.remove.ensures.ok

pub returns-else-has_rowid_at-clause-ok : goal.returns-else-has_rowid_at-clause-ok
returns-else-has_rowid_at-clause-ok c =
    let was = rw c.requires at (shaped _ _ c.args.self.now.ordered) in
    let fits = c.ranges.id in
    let place = simp to_z-of_z at c.place-at.ensures in
    let test = simp to_z-of_z at c.if-has_rowid_at.ensures in
    kept (λ r. value_cmp (rowid r) (Int c.args.id)) _ _ (table_apart (Int c.args.id) _ was.0) place test

pub invariant_of-self : goal.invariant_of-self
invariant_of-self c =
    let was = shaped _ _ c.args.self.now.ordered in
    let table = rw c.requires at was in
    let fits = c.ranges.id in
    let place = simp to_z-of_z at c.place-at.ensures in
    let test = simp to_z-of_z at c.if-has_rowid_at.ensures in
    let out = removed (λ r. value_cmp (rowid r) (Int c.args.id)) _ _ (table_apart (Int c.args.id) _ table.0) place test.0 test.1 in
    let done = on_ok_weaker c.remove.result (λ e. e ∙ out) c.remove.ensures.ok in
    record { ordered = held c.remove.result (λ l. ∥ IsShaped c.args.self.now.shape l ∥₁) _ _ _ done c.remove.ensures.err (∣ IsShaped-filter _ _ _ was ∣₁) (∣ was ∣₁) }
