-- Trees that list nothing are opened as a database with no table.
use Rattle.std.proofs.Common.{◌≡◌, inl, inr, [], refl, ◌∙◌, arith}
use Rattle.sqlite.specs.Disk.{MoreFaults}
use Rattle.sqlite_trees.specs.declared.error.StoreError.{StoreError}
use Rattle.sqlite_trees.specs.declared.error.StoreError.TheVariants.{OutOfMemory, Io, Corrupt, Full, Broken, Unstorable}
use Rattle.sqlite_trees.specs.Objects.{catalog_tree}
use Rattle.sqlite_trees.specs.Tree.{Trees}
use Rattle.sqlite_rules.specs.Calls.{Excuses}
use Rattle.sqlite_catalog.proofs.ReadLemmas.{lists_once}
use Rattle.sqlite.specs.declared.error.Error.{Error}
use Rattle.sqlite.specs.declared.error.Error.TheVariants.{SqliteFailure}
use Rattle.sqlite.specs.declared.error.ErrorCode.TheVariants as code
use Rattle.sqlite.specs.Held.{Held, state}
use Rattle.sqlite.specs.State.{IsLive, Opens, store_error}
use Rattle.sqlite.specs.Steps.{FailsToOpen}
use Rattle.sqlite.proofs.ListingLemmas.{empty_is_sound}
use Rattle.droid_store_trees.specs.declared.storage.TreeStore.{TreeStore}
use Rattle.droid_store_trees.specs.Over.{over_trees}
use Rattle.droid_store.specs.Transactions.{Settled}
use Rattle.droid_store.specs.MemoryFaults.{IsOutOfMemory}
use Rattle.droid_store.specs.Kept.{HasEmpty}
use Rattle.droid_store.specs.Tables.{no_schema}

pub opened_empty : (c : Held TreeStore) → Opens (state over_trees c) × IsLive (state over_trees c) → (state over_trees c).now.trees catalog_tree ≡ [] → Settled (state over_trees c) (HasEmpty no_schema [])
opened_empty c opened none =
    let db = (state over_trees c).now in
    let sound = (opened.1 opened.0.is_open).0 in
    record {
      holds = record { schema = lists_once (db.trees catalog_tree) db.schema _ sound.lists (empty_is_sound db.trees none).lists; empty = tt };
      autocommit = opened.0.autocommit;
      settled = opened.0.clean;
    }

excused : (cause : StoreError) → Excuses (MoreFaults 0 0) ⊥ cause → store_error cause ≡ SqliteFailure code.OutOfMemory
excused OutOfMemory h = refl
excused Io h = absurd (omega arith)
excused Corrupt h = absurd (omega arith)
excused Full h = absurd (omega arith)
excused Broken h = absurd h
excused Unstorable h = absurd h

pub opening_runs_out : (db : Trees) (e : Error) → db catalog_tree ≡ [] → FailsToOpen db (MoreFaults 0 0) e → IsOutOfMemory e
opening_runs_out db e none (inl refused) = absurd (refused.1 no_schema (empty_is_sound db none))
opening_runs_out db e none (inr failed) = inl (failed.1 ∙ excused failed.0 failed.2)
