use Rattle.std.proofs.Common.{◌≡◌, ◌+◌, pos, ap, arith}
use Rattle.std.proofs.lemmas.Result.{on_ok_weaker}
use Rattle.sqlite_trees.specs.declared.store.Shape.TheVariants.{Absent}
use Rattle.sqlite_trees.specs.Tree.{without_rowid}
use Rattle.sqlite_trees.specs.Listing.{Heading, objects_from-unset}
use Rattle.droid_store_trees.proofs.Altering.{object_set}
use Rattle.droid_store_trees.proofs.storage.alteration.TreeStoreAlter.destroy.Goals as goal

pub returns-clause-ok : goal.returns-clause-ok
returns-clause-ok c =
    let it = c.in_ok-new.new in
    let is = c.in_ok-new.ensures.heading in
    let shape : it.shape ≡ Absent = ap (λ (h : Heading). h.0) is in
    on_ok_weaker c.replace.result (λ h _.
    rw shape at
    (object_set c.args.self.now c.replace.new.self c.args.tree it (omega arith) h c.replace.ensures.rest.0 c.replace.ensures.rest.1 c.in_ok-new.ensures.rows (without_rowid (pos (c.args.tree + 1)))
    (λ hs within. rw is (objects_from-unset hs 0 c.args.tree c.args.tree (omega arith)))))
    c.replace.ensures.ok
