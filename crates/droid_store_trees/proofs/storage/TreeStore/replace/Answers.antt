use Rattle.droid_store_trees.specs.Shown.{current}
use Rattle.droid_store_trees.proofs.Showing.{alike_on}
use Rattle.droid_store_trees.proofs.storage.TreeStore.replace.Goals as goal

pub returns-clause-ok : goal.returns-clause-ok
returns-clause-ok c =
    let h = c.in_ok-done.ensures.ok in
    record { room = h.room; alike = alike_on (current c.args.self.now) c.in_ok-forest.forest h.room c.in_ok-forest.ensures.ok h.alike; within = h.within; is = h.is; version = h.version }
