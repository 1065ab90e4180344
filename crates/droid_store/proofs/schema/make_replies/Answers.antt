use Rattle.sqlite.specs.Held.{state}
use Rattle.droid_store_trees.specs.Over.{over_trees}
use Rattle.droid_store.proofs.Clean.{trees_are_clean}
use Rattle.droid_store.proofs.Makes.{makes_replies}
use Rattle.droid_store.proofs.MemoryFaults.{in_memory}
use Rattle.droid_store.proofs.MemoryFaultsOfTables.{replies_runs_out}
use Rattle.droid_store.proofs.schema.make_replies.Goals as goal

pub returns : goal.returns
returns c =
    let old = state over_trees c.args.conn.now in
    let new = state over_trees c.execute.new.self in
    record {
      made = makes_replies old new c.execute.result c.requires (c.execute.ensures.runs (trees_are_clean c.execute.new.self));
      limit = c.execute.ensures.survives.limit;
      failure = λ none. replies_runs_out old new c.execute.result (in_memory c.args.conn.now c.execute.new.self none) c.requires.holds.schema (c.execute.ensures.runs (trees_are_clean c.execute.new.self));
    }
