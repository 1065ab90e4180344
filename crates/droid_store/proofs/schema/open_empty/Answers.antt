use Rattle.std.proofs.Common.{◌≡◌, [], true, refl, ◌∙◌, ap, arith}
use Rattle.sqlite_trees.specs.Objects.{catalog_tree}
use Rattle.sqlite_trees.specs.Tree.{Trees}
use Rattle.sqlite_trees.proofs.Doubt.{no_doubt}
use Rattle.droid_store_trees.specs.Shown.{view}
use Rattle.droid_store.proofs.Opened.{opened_empty, opening_runs_out}
use Rattle.droid_store.proofs.schema.open_empty.Goals as goal

pub over-requires : goal.over-requires
over-requires c _ = record { sound = refl; numbered = refl; clean = c.new.ensures.clean; unmarked = c.new.ensures.unmarked }

pub returns-in-Ok-clause-empty : goal.returns-in-Ok-clause-empty
returns-in-Ok-clause-empty c =
    let none : (view c.new.result).trees catalog_tree ≡ [] = c.new.ensures.trees catalog_tree (λ same. omega arith) in
    opened_empty c.in-Ok.conn (c.in-Ok.ensures.opens (no_doubt true refl)) (ap (λ (db : Trees). db catalog_tree) (c.in-Ok.ensures.trees (no_doubt true refl)) ∙ none)

pub returns-in-Err-clause-failure : goal.returns-in-Err-clause-failure
returns-in-Err-clause-failure c =
    let none : (view c.new.result).trees catalog_tree ≡ [] = c.new.ensures.trees catalog_tree (λ same. omega arith) in
    opening_runs_out (view c.new.result).trees c.in-Err.error none (c.in-Err.ensures.err (no_doubt true refl))
