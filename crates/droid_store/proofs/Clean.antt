-- Trees in memory never give a wrong answer.
use Rattle.std.proofs.Common.{true, refl}
use Rattle.sqlite_trees.proofs.Doubt.{no_doubt}
use Rattle.sqlite.specs.Held.{Held, state}
use Rattle.sqlite.specs.State.{HasCleanDisk}
use Rattle.droid_store_trees.specs.declared.storage.TreeStore.{TreeStore}
use Rattle.droid_store_trees.specs.Over.{over_trees}

pub trees_are_clean : (c : Held TreeStore) → HasCleanDisk (state over_trees c)
trees_are_clean c = no_doubt true refl
