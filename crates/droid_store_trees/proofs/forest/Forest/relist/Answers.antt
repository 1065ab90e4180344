use Rattle.std.proofs.Common.{refl}
use Rattle.droid_store_trees.proofs.Places.{tree_at}
use Rattle.droid_store_trees.proofs.forest.Forest.relist.Goals as goal

pub returns-clause-ok : goal.returns-clause-ok
returns-clause-ok c =
    let f = c.args.self.now in
    let found = tree_at f.trees.items c.args.tree c.index.result.now c.requires c.index.ensures in
    record {
      it = c.in_ok-new.new;
      heading = rw found.0 c.in_ok-new.ensures.heading;
      rows = rw found.1 c.in_ok-new.ensures.rows;
      is = refl;
      version = refl;
    }
