use Rattle.std.proofs.Common.{◌∙◌, sym, ap}
use Rattle.std.proofs.lemmas.Result.{on_ok_weaker, on_err_weaker}
use Rattle.sqlite_trees.specs.Tree.{with_tree}
use Rattle.droid_store_trees.specs.Edits.{edited}
use Rattle.droid_store_trees.specs.Shown.{rows_of, shape_of}
use Rattle.droid_store_trees.proofs.Places.{present, fits_present, tree_at, headings_kept, rows_set, set_same}
use Rattle.droid_store_trees.proofs.forest.Forest.edit.Goals as goal

pub returns-clause-headings : goal.returns-clause-headings
returns-clause-headings c =
    let f = c.args.self.now in
    let within = present f.trees.items c.args.tree (fits_present c.args.edit (shape_of f c.args.tree) c.requires) in
    headings_kept f.trees.items c.args.tree c.index_mut.result.now c.apply.new.self within c.index_mut.ensures.value c.apply.ensures.heading

pub returns-clause-ok : goal.returns-clause-ok
returns-clause-ok c =
    let f = c.args.self.now in
    let within = present f.trees.items c.args.tree (fits_present c.args.edit (shape_of f c.args.tree) c.requires) in
    let found = tree_at f.trees.items c.args.tree c.index_mut.result.now within c.index_mut.ensures.value in
    on_ok_weaker c.apply.result (λ e. rows_set f.trees.items c.args.tree c.apply.new.self within ∙ ap (with_tree (rows_of f) c.args.tree) (e ∙ ap (edited c.args.edit) (sym found.1))) c.apply.ensures.ok

pub returns-clause-err : goal.returns-clause-err
returns-clause-err c =
    let f = c.args.self.now in
    let within = present f.trees.items c.args.tree (fits_present c.args.edit (shape_of f c.args.tree) c.requires) in
    let found = tree_at f.trees.items c.args.tree c.index_mut.result.now within c.index_mut.ensures.value in
    on_err_weaker c.apply.result (λ e. rows_set f.trees.items c.args.tree c.apply.new.self within ∙ ap (with_tree (rows_of f) c.args.tree) (e ∙ sym found.1) ∙ set_same (rows_of f) c.args.tree) c.apply.ensures.err
