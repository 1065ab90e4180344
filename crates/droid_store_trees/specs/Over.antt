-- The store as the contracts of a connection over it name it.
use Rattle.std.specs.Prelude.{◌≡◌, None}
use Rattle.sqlite_trees.specs.declared.store.Store.{Ghosts}
use Rattle.droid_store_trees.specs.declared.storage.TreeStore.{TreeStore}
use Rattle.droid_store_trees.specs.Shown.{view}

-- this store, in the form in which contracts of the kit's `sqlite` name the storage of a connection
abbrev pub over_trees : Ghosts TreeStore
over_trees = record {
  view = view;
  faults = λ _. 0;
  recovers = λ s db. db ≡ (view s).committed;
  is_shielded = λ _.
      Unit {0};
  is_step = λ _ _ _. Unit {0};
  blamed = λ _. None;
  names = λ _ _ _. Unit {0};
}
