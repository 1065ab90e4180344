-- A transaction begins with what was there.
use Rattle.std.proofs.Common.{◌≡◌, true, sym, subst, Result, Ok, Err, OnOk}
use Rattle.droid_store_trees.specs.declared.storage.TreeStore.{TreeStore}
use Rattle.sqlite.specs.Held.{Held, state}
use Rattle.droid_store_trees.specs.Over.{over_trees}
use Rattle.droid_store.specs.Transactions.{Settled, Within}
use Rattle.droid_store.proofs.Transactions.{begins}
use Rattle.droid_store.specs.Kept.{Holds}
use Rattle.droid_store.specs.Rows.{Rows}

pub started : (old tx : Held TreeStore) (rows : Rows) → tx ≡ record old { in_transaction = true } → Settled (state over_trees old) (Holds rows) → Within (state over_trees tx) (Holds rows) (Holds rows)
started old tx rows begun has = subst (λ h. Within (state over_trees h) (Holds rows) (Holds rows)) (sym begun) (begins (state over_trees old) (Holds rows) has)

-- what holds anyway holds where a call succeeds
pub on_ok : {U E : Type 0} (r : Result U E) (P : Type 0) → P → OnOk r P
on_ok (Ok done) P p = p
on_ok (Err e) P p = tt
