-- A look-up of the store fails only if memory runs out.
use Rattle.std.proofs.Common.{◌≡◌, ◌≢◌, ℕ, List, [], ◌∷◌, true, false, inl, inr, codes, Option, None, Ok, Err, Result, IfErr, IsErrAnd, sym, subst}
use Rattle.sqlite.specs.declared.types.Value.TheVariants.{Text}
use Rattle.sqlite.specs.declared.error.Error.{Error}
use Rattle.sqlite.specs.declared.error.Error.TheVariants.{QueryReturnedNoRows}
use Rattle.sqlite.specs.Effect.{RefusesQuery}
use Rattle.sqlite.specs.Order.{Row}
use Rattle.sqlite.specs.Term.{col}
use Rattle.sqlite.specs.State.{State, QueriesRow, FailsToQuery}
use Rattle.sqlite.specs.Tree.{Trees}
use Rattle.droid_store.specs.Queries.{rising_by}
use Rattle.droid_store.specs.MemoryFaults.{IsOutOfMemory, InMemory}
use Rattle.droid_store.proofs.RewrittenRows.{never_overflows}
use Rattle.droid_store.proofs.MemoryFaults.{row_runs_out, query_runs_out}
use Rattle.droid_store.specs.declared.statements.TheConstants.{FIND_PROFILE, FIND_NODE, FIND_CHILD, FIND_REPLY, LIST_RECORDS}
use Rattle.droid_store.specs.Encoded.{number}
use Rattle.droid_store.specs.Kept.{Holds}
use Rattle.droid_store.specs.Rows.{Rows}
use Rattle.droid_store.specs.Tables.{store_schema}
use Rattle.droid_store.proofs.Meanings.{by_id, by_number, by_name, by_sender, listed, node_columns, node_names, find_profile_query, find_profile_is, find_profile_plain, find_profile_whole, find_node_query, find_node_is, find_node_plain, find_node_whole, find_child_query, find_child_is, find_child_plain, find_child_whole, find_reply_query, find_reply_is, find_reply_plain, find_reply_whole, records_query, records_is, records_plain, records_whole}

-- an error other than that there is no row
pub row_or_none : (answer : Result Row Error) (r : Result (Option Row) Error) → IfErr r (λ e. (answer ≡ Err e) × (e ≢ QueryReturnedNoRows)) → ((e : Error) → e ≢ QueryReturnedNoRows → answer ≡ Err e → IsOutOfMemory e) → IfErr r IsOutOfMemory
row_or_none answer (Ok found) reported memory_faults = tt
row_or_none answer (Err e) reported memory_faults = memory_faults e reported.1 reported.0

-- and any answer that fails
pub failed_for : {V : Type 0} (r : Result V Error) (P : Error → Type 0) → IfErr r P → ((e : Error) → P e → IsOutOfMemory e) → IfErr r IsOutOfMemory
failed_for (Ok v) P reported memory_faults = tt
failed_for (Err e) P reported memory_faults = memory_faults e reported

-- an error that `?` hands on
pub handed_on : {V : Type 0} (r : Result V Error) (e : Error) → IsErrAnd r (λ y. y ≡ e) → IsOutOfMemory e → IfErr r IsOutOfMemory
handed_on (Ok v) e same failure = tt
handed_on (Err y) e same failure = subst IsOutOfMemory (sym same) failure

profile_typed : (profile : ℕ) (db : Trees) (err : Error) → ¬ RefusesQuery None (record { schema = store_schema; trees = db }) (record { lets = []; body = find_profile_query }) (number profile ∷ []) err
profile_typed profile db err (inl h) = let bad : true ≡ false = h.1 in cc
profile_typed profile db err (inr (inl h)) = never_overflows db 0 by_id (col 1 2 ∷ col 1 3 ∷ col 1 4 ∷ []) [] (number profile ∷ []) h.1
profile_typed profile db err (inr (inr h)) = let bad : false ≡ true = h.1 in cc

pub profile_runs_out : (old new : State) (profile : ℕ) (rows : Rows) (e : Error) → InMemory old new → Holds rows old.now → e ≢ QueryReturnedNoRows → QueriesRow FIND_PROFILE.now (number profile ∷ []) old new (Err e) → IsOutOfMemory e
profile_runs_out old new profile rows e mem has other h =
    row_runs_out FIND_PROFILE.now (number profile ∷ []) old new store_schema mem has.schema find_profile_plain find_profile_whole (record { lets = []; body = find_profile_query }) (codes "scan_limit" ∷ codes "match_all" ∷ codes "nodes" ∷ codes "hash" ∷ []) find_profile_is.0 find_profile_is.1 (profile_typed profile old.now.trees) e other h

node_typed : (profile id : ℕ) (db : Trees) (err : Error) → ¬ RefusesQuery None (record { schema = store_schema; trees = db }) (record { lets = []; body = find_node_query }) (number profile ∷ number id ∷ []) err
node_typed profile id db err (inl h) = let bad : true ≡ false = h.1 in cc
node_typed profile id db err (inr (inl h)) = never_overflows db 1 by_number node_columns [] (number profile ∷ number id ∷ []) h.1
node_typed profile id db err (inr (inr h)) = let bad : false ≡ true = h.1 in cc

pub node_runs_out : (old new : State) (profile id : ℕ) (rows : Rows) (e : Error) → InMemory old new → Holds rows old.now → e ≢ QueryReturnedNoRows → QueriesRow FIND_NODE.now (number profile ∷ number id ∷ []) old new (Err e) → IsOutOfMemory e
node_runs_out old new profile id rows e mem has other h =
    row_runs_out FIND_NODE.now (number profile ∷ number id ∷ []) old new store_schema mem has.schema find_node_plain find_node_whole (record { lets = []; body = find_node_query }) node_names find_node_is.0 find_node_is.1 (node_typed profile id old.now.trees) e other h

child_typed : (profile parent : ℕ) (name : List ℕ) (db : Trees) (err : Error) → ¬ RefusesQuery None (record { schema = store_schema; trees = db }) (record { lets = []; body = find_child_query }) (number profile ∷ number parent ∷ Text name ∷ []) err
child_typed profile parent name db err (inl h) = let bad : true ≡ false = h.1 in cc
child_typed profile parent name db err (inr (inl h)) = never_overflows db 1 by_name (col 1 2 ∷ []) [] (number profile ∷ number parent ∷ Text name ∷ []) h.1
child_typed profile parent name db err (inr (inr h)) = let bad : false ≡ true = h.1 in cc

pub child_runs_out : (old new : State) (profile parent : ℕ) (name : List ℕ) (rows : Rows) (e : Error) → InMemory old new → Holds rows old.now → e ≢ QueryReturnedNoRows → QueriesRow FIND_CHILD.now (number profile ∷ number parent ∷ Text name ∷ []) old new (Err e) → IsOutOfMemory e
child_runs_out old new profile parent name rows e mem has other h =
    row_runs_out FIND_CHILD.now (number profile ∷ number parent ∷ Text name ∷ []) old new store_schema mem has.schema find_child_plain find_child_whole (record { lets = []; body = find_child_query }) (codes "id" ∷ []) find_child_is.0 find_child_is.1 (child_typed profile parent name old.now.trees) e other h

reply_typed : (client sent : ℕ) (db : Trees) (err : Error) → ¬ RefusesQuery None (record { schema = store_schema; trees = db }) (record { lets = []; body = find_reply_query }) (number client ∷ number sent ∷ []) err
reply_typed client sent db err (inl h) = let bad : true ≡ false = h.1 in cc
reply_typed client sent db err (inr (inl h)) = never_overflows db 4 by_sender (col 1 4 ∷ col 1 5 ∷ col 1 6 ∷ col 1 7 ∷ []) [] (number client ∷ number sent ∷ []) h.1
reply_typed client sent db err (inr (inr h)) = let bad : false ≡ true = h.1 in cc

pub reply_runs_out : (old new : State) (client sent : ℕ) (rows : Rows) (e : Error) → InMemory old new → Holds rows old.now → e ≢ QueryReturnedNoRows → QueriesRow FIND_REPLY.now (number client ∷ number sent ∷ []) old new (Err e) → IsOutOfMemory e
reply_runs_out old new client sent rows e mem has other h =
    row_runs_out FIND_REPLY.now (number client ∷ number sent ∷ []) old new store_schema mem has.schema find_reply_plain find_reply_whole (record { lets = []; body = find_reply_query }) (codes "version" ∷ codes "kind" ∷ codes "mark" ∷ codes "body" ∷ []) find_reply_is.0 find_reply_is.1 (reply_typed client sent old.now.trees) e other h

records_typed : (profile : ℕ) (db : Trees) (err : Error) → ¬ RefusesQuery None (record { schema = store_schema; trees = db }) (record { lets = []; body = records_query }) (number profile ∷ []) err
records_typed profile db err (inl h) = let bad : true ≡ false = h.1 in cc
records_typed profile db err (inr (inl h)) = never_overflows db 1 listed node_columns (rising_by (col 1 2)) (number profile ∷ []) h.1
records_typed profile db err (inr (inr h)) = let bad : false ≡ true = h.1 in cc

pub records_runs_out : (old new : State) (profile : ℕ) (rows : Rows) (e : Error) → InMemory old new → Holds rows old.now → FailsToQuery LIST_RECORDS.now (number profile ∷ []) old new e → IsOutOfMemory e
records_runs_out old new profile rows e mem has h =
    query_runs_out LIST_RECORDS.now (number profile ∷ []) old new store_schema mem has.schema records_plain records_whole (record { lets = []; body = records_query }) node_names records_is.0 records_is.1 (records_typed profile old.now.trees) e h
