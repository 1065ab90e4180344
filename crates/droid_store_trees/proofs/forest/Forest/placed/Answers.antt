use Rattle.std.proofs.Common.{◌≡◌, arith}
use Rattle.std.proofs.lemmas.Grind.{common_steps}
use Rattle.sqlite_trees.proofs.TreeLemmas.{sorted_shape}
use Rattle.sqlite_trees.proofs.MemoryLemmas as lemma
use Rattle.droid_store_trees.specs.Shown.{rows_of, shape_of}
use Rattle.droid_store_trees.proofs.forest.Forest.placed.Goals as goal

pub place-at-requires : goal.place-at-requires
place-at-requires c = rw c.order-order.ensures (lemma.cut_below_key _ _ _ (sorted_shape _ _ (lemma.shaped _ _ c.in-Some.found.now.ordered)))

pub place-at-requires-in-Backward : goal.place-at-requires-in-Backward
place-at-requires-in-Backward c = rw c.order-order.ensures (lemma.cut_up_to_key _ _ _ (sorted_shape _ _ (lemma.shaped _ _ c.in-Some.found.now.ordered)))

pub returns-in-Forward : goal.returns-in-Forward
returns-in-Forward c =
    let tree : rows_of c.args.self.now c.args.tree ≡ c.in-Some.found.now.rows = grind (arith, common_steps, c.in-Some.ensures.lookup) in
    let shape : shape_of c.args.self.now c.args.tree ≡ c.in-Some.found.now.shape = grind (arith, common_steps, c.in-Some.ensures.lookup) in
    rw (c.in-Forward.is, tree, shape, ← c.order-order.ensures) (lemma.drop-from_key _ _ _ _ c.place-at.ensures)

pub returns-in-Backward : goal.returns-in-Backward
returns-in-Backward c =
    let tree : rows_of c.args.self.now c.args.tree ≡ c.in-Some.found.now.rows = grind (arith, common_steps, c.in-Some.ensures.lookup) in
    let shape : shape_of c.args.self.now c.args.tree ≡ c.in-Some.found.now.shape = grind (arith, common_steps, c.in-Some.ensures.lookup) in
    rw (c.in-Backward.is, tree, shape, ← c.order-order.ensures, lemma.take-up_to_key _ _ _ _ c.place-at-in-Backward.ensures)
