use Rattle.std.proofs.Common.{◌∙◌}
use Rattle.std.proofs.lemmas.Result.{on_ok_weaker}
use Rattle.sqlite_trees.specs.Tree.{IsIndex}
use Rattle.sqlite_trees.proofs.TreeLemmas.{IsIndex-insert_entry}
use Rattle.sqlite_trees.proofs.MemoryLemmas as lemma
use Rattle.droid_store_trees.proofs.Removals.{held}
use Rattle.droid_store_trees.proofs.tree.Tree.insert.Goals as goal

pub place-at-requires : goal.place-at-requires
place-at-requires c = let was = rw c.requires at (lemma.shaped _ _ c.args.self.now.ordered) in lemma.cut_below_entry c.args.order c.args.new.now _ was

pub returns-then-has_entry_at-clause-ok : goal.returns-then-has_entry_at-clause-ok
returns-then-has_entry_at-clause-ok c =
    let test = c.if-has_entry_at.ensures in
    lemma.kept-insert_entry c.args.order c.args.new.now _ _ c.place-at.ensures test.0 test.1

pub returns-else-has_entry_at-clause-ok : goal.returns-else-has_entry_at-clause-ok
returns-else-has_entry_at-clause-ok c =
    let made = lemma.insert-insert_entry c.args.order c.args.new.now _ _ c.place-at.ensures c.if-has_entry_at.ensures in
    on_ok_weaker c.insert.result (λ e. e ∙ made) (rw c.in_ok-packed.ensures at c.insert.ensures.ok)

pub invariant_of-self : goal.invariant_of-self
invariant_of-self c =
    let made = lemma.insert-insert_entry c.args.order c.args.new.now _ _ c.place-at.ensures c.if-has_entry_at.ensures in
    let done = on_ok_weaker c.insert.result (λ e. e ∙ made) (rw c.in_ok-packed.ensures at c.insert.ensures.ok) in
    let was = rw c.requires at (lemma.shaped _ _ c.args.self.now.ordered) in
    record { ordered = rw c.requires (held c.insert.result (λ l. ∥ IsIndex c.args.order l ∥₁) _ _ _ done c.insert.ensures.err (∣ IsIndex-insert_entry c.args.order c.args.new.now _ was ∣₁) (∣ was ∣₁)) }
