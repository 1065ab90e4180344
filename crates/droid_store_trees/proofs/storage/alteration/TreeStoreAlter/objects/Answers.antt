use Rattle.std.proofs.Common.{◌≡◌, ◌≢◌, ◌<◌, length, map, rules, append_assoc}
use Rattle.std.proofs.lemmas.List.{length-map}
use Rattle.sqlite_trees.specs.declared.store.Shape.TheVariants.{Absent}
use Rattle.sqlite_trees.proofs.StoreLemmas.{objects_step, listed_unless_absent}
use Rattle.droid_store_trees.specs.Shown.{heading}
use Rattle.droid_store_trees.proofs.Places.{heading_at}
use Rattle.droid_store_trees.proofs.storage.alteration.TreeStoreAlter.objects.Goals.{then-ne+in_ok-listing+in_ok-push, else-ne}
use Rattle.droid_store_trees.proofs.storage.alteration.TreeStoreAlter.objects.Goals as goal

pub loop-at-preserved : goal.loop-at-preserved
loop-at-preserved c =
    let x = c.index-trees-at.result in
    let trees = c.as_slice-trees.result.now in
    let within : c.loop-at.at < length (map heading trees) = rw length-map c.loop-at-test.true in
    let was = rw (objects_step _ c.loop-at.at _ _ within (heading_at trees _ x c.loop-at-test.true c.index-trees-at.is)) at c.loop-at.invariant in
    elim c.if-ne.branch [
      | then-ne+in_ok-listing+in_ok-push w ↦
          let present : x.shape ≢ Absent = search rules in
          rw (w.rows-is, w.in_ok-push.ensures.items, w.in_ok-listing.ensures, append_assoc) (rw (listed_unless_absent _ _ _ present) at was)
      | else-ne w ↦ let absent : x.shape ≡ Absent = search rules in rw w.rows-is (rw absent at was)
    ]
