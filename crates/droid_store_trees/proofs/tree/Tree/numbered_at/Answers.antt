use Rattle.std.proofs.Common.{rules, ◌≡◌, true, to_z-of_z, to_z, of_z, get_or, [], is_eq, subst}
use Rattle.std.specs.Int.{w64}
use Rattle.sqlite_value.specs.declared.value.Value.TheVariants.{Int}
use Rattle.sqlite_value.specs.Order.{Row, value_cmp}
use Rattle.sqlite_trees.specs.Tree.{rowid, has_rowid}
use Rattle.sqlite_trees.proofs.MemoryLemmas as lemma
use Rattle.droid_store_trees.proofs.Numbered.{one_numbered}
use Rattle.droid_store_trees.proofs.tree.Tree.numbered_at.Goals as goal

pub returns-then-is_eq : goal.returns-then-is_eq
returns-then-is_eq c =
    let was = rw c.requires at (lemma.shaped _ _ c.args.self.now.ordered) in
    let fits = c.ranges.id in
    let found = c.in_ok-found.ensures.found in
    let here : c.in_ok-found.found.now ≡ get_or c.args.self.now.rows c.args.at [] = found.1 in
    let tested : is_eq (value_cmp (rowid c.in_ok-found.found.now) (Int (to_z w64 (of_z w64 c.args.id)))) ≡ true = search rules in
    let same : has_rowid c.args.id c.in_ok-found.found.now ≡ true = simp to_z-of_z at tested in
    rw here (one_numbered c.args.id c.args.self.now.rows c.args.at was.0 found.0 (subst (λ (r : Row). has_rowid c.args.id r ≡ true) here same))
