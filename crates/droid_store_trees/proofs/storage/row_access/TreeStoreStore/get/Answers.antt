use Rattle.std.proofs.Common.{rules, ◌≡◌, ◌<◌, ◌∙◌, sym, refl, true, arith, length}
use Rattle.sqlite_trees.specs.declared.store.Shape.TheVariants.{Table}
use Rattle.sqlite_trees.proofs.Doubt.{no_doubt}
use Rattle.droid_store_trees.specs.Shown.{current, shape_of}
use Rattle.droid_store_trees.proofs.Places.{present, tree_at, shape_shown}
use Rattle.droid_store_trees.proofs.storage.row_access.TreeStoreStore.get.Goals as goal

pub index-requires : goal.index-requires
index-requires c =
    let s = c.args.self.now in
    let table : shape_of (current s) c.args.table ≡ Table = sym (shape_shown (current s) c.args.table (omega arith)) ∙ c.requires (no_doubt true refl) in
    let within : c.args.table < length (current s).trees.items = present (current s).trees.items c.args.table (λ none. cc) in
    let small = c.current.result.now.trees.ok in
    search rules

pub get-requires : goal.get-requires
get-requires c =
    let s = c.args.self.now in
    let table : shape_of (current s) c.args.table ≡ Table = sym (shape_shown (current s) c.args.table (omega arith)) ∙ c.requires (no_doubt true refl) in
    let within = present (current s).trees.items c.args.table (λ none. cc) in
    sym (tree_at (current s).trees.items c.args.table c.index.result.now within (rw (← c.current.ensures) c.index.ensures)).0 ∙ table
