use Rattle.std.proofs.Common.{true, refl, ◌≡◌, ap, arith}
use Rattle.std.proofs.lemmas.Result.{on_ok_weaker}
use Rattle.sqlite_trees.specs.Tree.{put_row}
use Rattle.sqlite_trees.specs.Objects.{object_row, description}
use Rattle.sqlite_trees.specs.Listing.{Heading, objects_from-set}
use Rattle.sqlite_trees.proofs.StoreLemmas.{present_reals}
use Rattle.sqlite_trees.proofs.Doubt.{no_doubt}
use Rattle.droid_store_trees.proofs.Altering.{object_set}
use Rattle.droid_store_trees.proofs.storage.alteration.TreeStoreAlter.create.Goals as goal

pub returns-clause-ok : goal.returns-clause-ok
returns-clause-ok c =
    let o = c.args.object.now in
    let it = c.in_ok-new.new in
    let is = c.in_ok-new.ensures.heading in
    let shape : it.shape ≡ o.shape = ap (λ (h : Heading). h.0) is in
    let reals : it.reals ≡ o.reals = ap (λ (h : Heading). h.1) is in
    let shaped = (c.requires (no_doubt true refl)).shaped in
    on_ok_weaker c.replace.result (λ h _.
    rw (shape, reals, present_reals o.shape o.reals shaped) at
    (object_set c.args.self.now c.replace.new.self c.args.tree it (omega arith) h c.replace.ensures.rest.0 c.replace.ensures.rest.1 c.in_ok-new.ensures.rows (put_row (object_row c.args.tree o))
    (λ hs within. rw is (objects_from-set hs 0 c.args.tree c.args.tree (o.shape, o.reals, description o) (omega arith) within shaped))))
    c.replace.ensures.ok
