use Rattle.std.proofs.Common.{◌∙◌, subst, is_lt}
use Rattle.std.proofs.lemmas.Result.{on_ok_weaker}
use Rattle.sqlite_value.specs.Order.{value_cmp}
use Rattle.sqlite_trees.specs.Tree.{rowid}
use Rattle.sqlite_trees.specs.Probe.{IsPlaceOf}
use Rattle.sqlite_trees.specs.View.{IsShaped}
use Rattle.sqlite_trees.specs.declared.store.Shape.TheVariants.{Table}
use Rattle.sqlite_trees.proofs.TreeLemmas.{IsShaped-put_row}
use Rattle.sqlite_trees.proofs.MemoryLemmas as lemma
use Rattle.droid_store_trees.proofs.Removals.{held}
use Rattle.droid_store_trees.proofs.tree.Tree.put.Goals as goal

pub place-at-requires : goal.place-at-requires
place-at-requires c = let was = rw c.requires.table at (lemma.shaped _ _ c.args.self.now.ordered) in lemma.cut_below_rowid _ _ was.0

pub returns-then-has_rowid_at-clause-ok : goal.returns-then-has_rowid_at-clause-ok
returns-then-has_rowid_at-clause-ok c =
    let place = subst (λ id. IsPlaceOf (λ e. is_lt (value_cmp (rowid e) id)) c.args.self.now.rows c.place-at.result) c.get.ensures c.place-at.ensures in
    let test = rw c.get-2.ensures at c.if-has_rowid_at.ensures in
    let made = lemma.set-put_row c.args.new.now _ _ place test.0 test.1 in
    on_ok_weaker c.set.result (λ e. e ∙ made) (rw c.in_ok-packed.ensures at c.set.ensures.ok)

pub returns-else-has_rowid_at-clause-ok : goal.returns-else-has_rowid_at-clause-ok
returns-else-has_rowid_at-clause-ok c =
    let place = subst (λ id. IsPlaceOf (λ e. is_lt (value_cmp (rowid e) id)) c.args.self.now.rows c.place-at.result) c.get.ensures c.place-at.ensures in
    let test = rw c.get-2.ensures at c.if-has_rowid_at.ensures in
    let made = lemma.insert-put_row c.args.new.now _ _ place test in
    on_ok_weaker c.insert.result (λ e. e ∙ made) (rw c.in_ok-packed.ensures at c.insert.ensures.ok)

pub invariant_of-self : goal.invariant_of-self
invariant_of-self c =
    let place = subst (λ id. IsPlaceOf (λ e. is_lt (value_cmp (rowid e) id)) c.args.self.now.rows c.place-at.result) c.get.ensures c.place-at.ensures in
    let test = rw c.get-2.ensures at c.if-has_rowid_at.ensures in
    let made = lemma.set-put_row c.args.new.now _ _ place test.0 test.1 in
    let done = on_ok_weaker c.set.result (λ e. e ∙ made) (rw c.in_ok-packed.ensures at c.set.ensures.ok) in
    let was = rw c.requires.table at (lemma.shaped _ _ c.args.self.now.ordered) in
    record { ordered = rw c.requires.table (held c.set.result (λ l. ∥ IsShaped Table l ∥₁) _ _ _ done c.set.ensures.err (∣ IsShaped-put_row c.args.new.now _ c.requires.keyed was ∣₁) (∣ was ∣₁)) }

pub invariant_of-self-else-has_rowid_at : goal.invariant_of-self-else-has_rowid_at
invariant_of-self-else-has_rowid_at c =
    let place = subst (λ id. IsPlaceOf (λ e. is_lt (value_cmp (rowid e) id)) c.args.self.now.rows c.place-at.result) c.get.ensures c.place-at.ensures in
    let test = rw c.get-2.ensures at c.if-has_rowid_at.ensures in
    let made = lemma.insert-put_row c.args.new.now _ _ place test in
    let done = on_ok_weaker c.insert.result (λ e. e ∙ made) (rw c.in_ok-packed.ensures at c.insert.ensures.ok) in
    let was = rw c.requires.table at (lemma.shaped _ _ c.args.self.now.ordered) in
    record { ordered = rw c.requires.table (held c.insert.result (λ l. ∥ IsShaped Table l ∥₁) _ _ _ done c.insert.ensures.err (∣ IsShaped-put_row c.args.new.now _ c.requires.keyed was ∣₁) (∣ was ∣₁)) }
