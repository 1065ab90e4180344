use Rattle.std.proofs.Common.{◌∙◌}
use Rattle.std.proofs.lemmas.Result.{on_ok_weaker}
use Rattle.sqlite_value.specs.Keys.{entry_cmp}
use Rattle.sqlite_trees.specs.View.{IsShaped}
use Rattle.sqlite_trees.proofs.TreeLemmas.{IsShaped-filter}
use Rattle.sqlite_trees.proofs.MemoryLemmas.{shaped, cut_below_entry}
use Rattle.droid_store_trees.proofs.Removals.{held, removed, kept, index_apart}
use Rattle.droid_store_trees.proofs.tree.Tree.remove.Goals as goal

pub place-at-requires : goal.place-at-requires
place-at-requires c = let was = rw c.requires at (shaped _ _ c.args.self.now.ordered) in cut_below_entry c.args.order c.args.entry.now _ was

pub returns-then-has_entry_at-clause-ok : goal.returns-then-has_entry_at-clause-ok
returns-then-has_entry_at-clause-ok c =
    let was = rw c.requires at (shaped _ _ c.args.self.now.ordered) in
    let test = c.if-has_entry_at.ensures in
    let out = removed (λ e. entry_cmp c.args.order e c.args.entry.now) _ _ (index_apart c.args.order c.args.entry.now _ was) c.place-at.ensures test.0 test.1 in
    on_ok_weaker c.remove.result (λ e. e ∙ out) c.remove.ensures.ok

pub returns-else-has_entry_at-clause-ok : goal.returns-else-has_entry_at-clause-ok
returns-else-has_entry_at-clause-ok c =
    let was = rw c.requires at (shaped _ _ c.args.self.now.ordered) in
    kept (λ e. entry_cmp c.args.order e c.args.entry.now) _ _ (index_apart c.args.order c.args.entry.now _ was) c.place-at.ensures c.if-has_entry_at.ensures

pub invariant_of-self : goal.invariant_of-self
invariant_of-self c =
    let was = shaped _ _ c.args.self.now.ordered in
    let index = rw c.requires at was in
    let test = c.if-has_entry_at.ensures in
    let out = removed (λ e. entry_cmp c.args.order e c.args.entry.now) _ _ (index_apart c.args.order c.args.entry.now _ index) c.place-at.ensures test.0 test.1 in
    let done = on_ok_weaker c.remove.result (λ e. e ∙ out) c.remove.ensures.ok in
    record { ordered = held c.remove.result (λ l. ∥ IsShaped c.args.self.now.shape l ∥₁) _ _ _ done c.remove.ensures.err (∣ IsShaped-filter _ _ _ was ∣₁) (∣ was ∣₁) }
