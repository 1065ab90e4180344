-- A statement of a transaction fails only if memory runs out.
use Rattle.std.proofs.Common.{◌≡◌, ◌+◌, ℕ, ℤ, pos, List, [], ◌∷◌, ◌++◌, length, map, Bool, true, false, inl, inr, None, Ok, Err, Result, IsTrue, refl, sym, ap, subst, ◌∙◌, arith}
use Rattle.sqlite_schema.specs.declared.schema.Index.{Index}
use Rattle.sqlite_schema.specs.declared.schema.Keys.TheVariants.{Enforced}
use Rattle.sqlite_schema.specs.Rules.{table_reals, index_reals}
use Rattle.sqlite_sql.specs.Catalog.{entry_of}
use Rattle.sqlite.specs.declared.types.Value.TheVariants.{Null, Int, Text, Blob}
use Rattle.sqlite.specs.declared.error.Error.{Error}
use Rattle.sqlite.specs.Cast.{cast_row}
use Rattle.sqlite.specs.Command.TheVariants.{Insert}
use Rattle.sqlite.specs.Edit.{edited, IsOversized}
use Rattle.sqlite.specs.Effect.{Database, RefusesSource}
use Rattle.sqlite.specs.Listing.{understood}
use Rattle.sqlite.specs.Order.{Row}
use Rattle.sqlite.specs.Rows.{Edited, stamped}
use Rattle.sqlite.specs.Source.TheVariants.{Values}
use Rattle.sqlite.specs.State.{State, ExecutesInside}
use Rattle.sqlite.specs.Tree.{with_tree}
use Rattle.sqlite.specs.View.{IsStorable}
use Rattle.sqlite.proofs.Callers.{statement_of}
use Rattle.droid_store.specs.KeyedRows.{numbered_from, next_key}
use Rattle.droid_store.specs.MemoryFaults.{IsOutOfMemory, InMemory, IsSure}
use Rattle.droid_store.proofs.FreeEdits.{free_by, small_one, brings, brings_next, fresh_last, storable}
use Rattle.droid_store.proofs.Inserts.{insert_edit}
use Rattle.droid_store.proofs.Rising.{rising_numbered, numbered_append, next_numbered, numbered_below}
use Rattle.droid_store.proofs.RowEdits.{added_next}
use Rattle.droid_store.proofs.RowOrder.{below_next}
use Rattle.droid_store.proofs.SureEdits.{edit_sure, insert_sure}
use Rattle.droid_store.proofs.Values.{cast_null, cast_int}
use Rattle.droid_store.proofs.MemoryFaults.{inside_runs_out, insert_is_edit}
use Rattle.droid_frame.specs.Hashes.{hash_kind_number}
use Rattle.droid_frame.specs.declared.hash_kind.HashKind.{HashKind}
use Rattle.droid_store.specs.declared.rows.Entry.{Entry}
use Rattle.droid_store.specs.declared.rows.NodeState.{NodeState}
use Rattle.droid_store.specs.declared.rows.ProfileRow.{ProfileRow}
use Rattle.droid_store.specs.declared.statements.TheConstants.{ADD_PROFILE, ADD_NODE, ADD_REPLY}
use Rattle.droid_store.specs.Changes.{new_node, with_reply}
use Rattle.droid_store.specs.Encoded.{number, flag, state_number, profile_row, node_row, reply_row}
use Rattle.droid_store.specs.Kept.{Holds, HasKeys, FailsForMemory}
use Rattle.droid_store.specs.Rows.{Node, Rows}
use Rattle.droid_store.specs.Sizes.{entry_size, node_size, FitsARow}
use Rattle.droid_store.specs.Tables.{profiles, store_schema}
use Rattle.droid_store.proofs.Effects.{profile_tail, reply_tail}
use Rattle.droid_store.proofs.Meanings.{add_profile_is, add_profile_plain, add_profile_whole, profile_terms, add_node_is, add_node_plain, add_node_whole, node_terms, add_reply_is, add_reply_plain, add_reply_whole, reply_terms}
use Rattle.droid_store.proofs.NodeEffects.{map_last, node_tail, with_last_node}
use Rattle.droid_store.proofs.Unique.{node_table, reply_table, keeps_unique, store_refers}

-- a statement in a transaction
pub runs_out_by : (sql : List ℕ) (params : Row) (old new : State) (r : Result ℕ Error) (before : Rows) → (IsTrue old.in_transaction → ExecutesInside 0 sql params old new r)
    → ((e : Error) → old.step_limit ≡ None → Holds before old.now → ExecutesInside 0 sql params old new (Err e) → IsOutOfMemory e) → FailsForMemory old new r before
runs_out_by sql params old new (Ok count) before ran does saved has none = tt
runs_out_by sql params old new (Err e) before ran does saved has none = does e none has.seen (ran has.within)

-- ---- a reply

abbrev pub reply_params : Entry → Row
reply_params e = number e.client ∷ number e.number ∷ number e.version ∷ number e.kind ∷ Blob e.mark ∷ Blob e.body ∷ []

reply_typed : (e : Entry) (d : Database) (err : Error) → ¬ RefusesSource None d (stamped reply_table (reply_params e)) (Values reply_terms 8) err
reply_typed e d err (inl h) = let bad : true ≡ false = h.1 in cc
reply_typed e d err (inr h) = let bad : false ≡ true = h.1 in cc

reply_fits : (x : ℕ × Entry) → FitsARow (entry_size x.1) → ¬ IsOversized store_schema reply_table (reply_row x)
reply_fits x small (inl big) = big (storable (reply_row x) (omega arith) (omega arith) refl (omega arith), omega arith)
reply_fits x small (inr (i, inl is, at, big)) = absurd (let other : i.table ≡ 1 = ap (λ (j : Index). j.table) is in omega (arith, at, other))
reply_fits x small (inr (i, inr (inl is), at, big)) = absurd (let other : i.table ≡ 1 = ap (λ (j : Index). j.table) is in omega (arith, at, other))
reply_fits x small (inr (i, inr (inr (inl is)), at, big)) =
    subst (λ (j : Index). ¬ IsStorable (index_reals (table_reals reply_table) j.columns) (entry_of j.columns (reply_row x))) is big
    (storable (number x.1.client ∷ number x.1.number ∷ number x.0 ∷ []) (omega arith) (omega arith) refl (omega arith))
reply_fits x small (inr (i, inr (inr (inr no_other)), at, big)) = no_other

reply_edits : (e : Entry) (rows : Rows) (db : Database) → Holds rows db → HasKeys (with_reply e rows) → FitsARow (entry_size e)
    → IsSure (Edited store_schema Enforced db.trees (insert_edit db.trees reply_table (stamped reply_table (reply_params e)) reply_terms 8))
reply_edits e rows db has keys small =
    let params = stamped reply_table (reply_params e) in
    let xs = numbered_from 1 rows.replies in
    let x : ℕ × Entry = (1 + length rows.replies, e) in
    let values = Null ∷ Null ∷ number e.client ∷ number e.number ∷ number e.version ∷ number e.kind ∷ Blob e.mark ∷ Blob e.body ∷ [] in
    let stored : cast_row reply_table values ≡ Null ∷ reply_tail x = rw (cast_null, cast_int (pos e.client), cast_int (pos e.number), cast_int (pos e.version), cast_int (pos e.kind)) refl in
    let next = sym (next_numbered rows.replies) in
    let edit = insert_edit db.trees reply_table params reply_terms 8 in
    let news = brings_next (λ x. x.0) reply_tail db.trees reply_table xs has.replies params reply_terms 8 values x refl stored next in
    let after = added_next (λ x. x.0) reply_tail db.trees reply_table xs has.replies params reply_terms 8 values x refl stored (rising_numbered 1 rows.replies) next ∙ ap (map reply_row) (sym (numbered_append 1 rows.replies e)) in
    let unique = keeps_unique (with_reply e rows) has.nodes (with_tree db.trees 4 (edited db.trees edit)) has.nodes_are keys has.node_rows after in
    let fresh = fresh_last (λ x. x.0) reply_tail db.trees reply_table xs has.replies x (numbered_below 1 (1 + length rows.replies) rows.replies (omega arith)) in
    edit_sure store_schema db.trees edit refl (free_by store_schema db.trees edit (reply_row x ∷ []) news refl refl refl fresh refl refl unique) (small_one store_schema edit (reply_row x) news (reply_fits x small))

pub reply_runs_out : (old new : State) (e : Entry) (rows : Rows) (err : Error) → InMemory old new → Holds rows old.now → HasKeys (with_reply e rows) → FitsARow (entry_size e)
    → ExecutesInside 0 ADD_REPLY.now (reply_params e) old new (Err err) → IsOutOfMemory err
reply_runs_out old new e rows err mem has keys small h =
    inside_runs_out ADD_REPLY.now (reply_params e) old new store_schema mem has.schema add_reply_plain add_reply_whole (Insert 2 (Values reply_terms 8)) add_reply_is (insert_is_edit 2 (Values reply_terms 8))
    (insert_sure store_schema 2 store_refers (reply_params e) old.now.trees (statement_of ADD_REPLY.now (understood store_schema ADD_REPLY.now)) reply_table refl reply_terms 8 (reply_typed e (record { schema = store_schema; trees = old.now.trees })) (reply_edits e rows old.now has keys small)) err h

-- ---- a profile

abbrev pub profile_params : ℕ → ℕ → Bool → HashKind → Row
profile_params profile limit all hash = number profile ∷ number limit ∷ flag all ∷ number (hash_kind_number hash) ∷ []

profile_typed : (profile limit : ℕ) (all : Bool) (hash : HashKind) (d : Database) (err : Error) → ¬ RefusesSource None d (stamped profiles (profile_params profile limit all hash)) (Values profile_terms 6) err
profile_typed profile limit all hash d err (inl h) = let bad : true ≡ false = h.1 in cc
profile_typed profile limit all hash d err (inr h) = let bad : false ≡ true = h.1 in cc

pub profile_fits : (x : ℕ × ProfileRow) → ¬ IsOversized store_schema profiles (profile_row x)
profile_fits x (inl big) = big (storable (profile_row x) (omega arith) (omega arith) refl (omega arith), omega arith)
profile_fits x (inr (i, inl is, at, big)) = absurd (let other : i.table ≡ 1 = ap (λ (j : Index). j.table) is in omega (arith, at, other))
profile_fits x (inr (i, inr (inl is), at, big)) = absurd (let other : i.table ≡ 1 = ap (λ (j : Index). j.table) is in omega (arith, at, other))
profile_fits x (inr (i, inr (inr (inl is)), at, big)) = absurd (let other : i.table ≡ 4 = ap (λ (j : Index). j.table) is in omega (arith, at, other))
profile_fits x (inr (i, inr (inr (inr no_other)), at, big)) = no_other

profile_edits : (profile limit : ℕ) (all : Bool) (hash : HashKind) (rows : Rows) (db : Database) → profile ≡ length rows.profiles + 1 → Holds rows db → HasKeys rows
    → IsSure (Edited store_schema Enforced db.trees (insert_edit db.trees profiles (stamped profiles (profile_params profile limit all hash)) profile_terms 6))
profile_edits profile limit all hash rows db next has keys =
    let params = stamped profiles (profile_params profile limit all hash) in
    let xs = numbered_from 1 rows.profiles in
    let row : ProfileRow = record { scan_limit = limit; match_all = all; nodes = 0; hash = hash } in
    let x : ℕ × ProfileRow = (profile, row) in
    let values = number profile ∷ Null ∷ number limit ∷ flag all ∷ number 0 ∷ number (hash_kind_number hash) ∷ [] in
    let stored : cast_row profiles values ≡ profile_row x = rw (cast_null, cast_int (pos profile), cast_int (pos limit), cast_int _, cast_int (pos 0), cast_int (pos (hash_kind_number hash))) refl in
    let edit = insert_edit db.trees profiles params profile_terms 6 in
    let news = brings (λ p. p.0) profile_tail db.trees profiles xs params profile_terms 6 values x refl stored in
    let unique = keeps_unique rows has.nodes (with_tree db.trees 0 (edited db.trees edit)) has.nodes_are keys has.node_rows has.replies in
    let fresh = fresh_last (λ p. p.0) profile_tail db.trees profiles xs has.profiles x (numbered_below 1 profile rows.profiles (omega arith)) in
    edit_sure store_schema db.trees edit refl (free_by store_schema db.trees edit (profile_row x ∷ []) news refl refl refl fresh refl refl unique) (small_one store_schema edit (profile_row x) news (profile_fits x))

pub profile_runs_out : (old new : State) (profile limit : ℕ) (all : Bool) (hash : HashKind) (rows : Rows) (err : Error) → InMemory old new → profile ≡ length rows.profiles + 1 → Holds rows old.now → HasKeys rows
    → ExecutesInside 0 ADD_PROFILE.now (profile_params profile limit all hash) old new (Err err) → IsOutOfMemory err
profile_runs_out old new profile limit all hash rows err mem next has keys h =
    let params = profile_params profile limit all hash in
    inside_runs_out ADD_PROFILE.now params old new store_schema mem has.schema add_profile_plain add_profile_whole (Insert 0 (Values profile_terms 6)) add_profile_is (insert_is_edit 0 (Values profile_terms 6))
    (insert_sure store_schema 0 store_refers params old.now.trees (statement_of ADD_PROFILE.now (understood store_schema ADD_PROFILE.now)) profiles refl profile_terms 6 (profile_typed profile limit all hash (record { schema = store_schema; trees = old.now.trees })) (profile_edits profile limit all hash rows old.now next has keys)) err h

-- ---- a node

pub node_fits : (x : ℕ × Node) → FitsARow (node_size x.1) → ¬ IsOversized store_schema node_table (node_row x)
node_fits x small (inl big) =
    big (storable (node_row x) (omega arith) (omega arith) refl (omega arith), omega arith)
node_fits x small (inr (i, inl is, at, big)) =
    subst (λ (j : Index). ¬ IsStorable (index_reals (table_reals node_table) j.columns) (entry_of j.columns (node_row x))) is big
    (storable (number x.1.profile ∷ number x.1.id ∷ number x.0 ∷ []) (omega arith) (omega arith) refl (omega arith))
node_fits x small (inr (i, inr (inl is), at, big)) =
    subst (λ (j : Index). ¬ IsStorable (index_reals (table_reals node_table) j.columns) (entry_of j.columns (node_row x))) is big
    (storable (number x.1.profile ∷ number x.1.parent ∷ Text x.1.name ∷ number x.0 ∷ []) (omega arith) (omega arith) refl (omega arith))
node_fits x small (inr (i, inr (inr (inl is)), at, big)) = absurd (let other : i.table ≡ 4 = ap (λ (j : Index). j.table) is in omega (arith, at, other))
node_fits x small (inr (i, inr (inr (inr no_other)), at, big)) = no_other

module _ (profile id parent : ℕ) (modified : ℤ) (state : NodeState) (size piece_size : ℕ) (name path : List ℕ) where
  abbrev pub node_params : Row
  node_params = number profile ∷ number id ∷ number parent ∷ Int modified ∷ number (state_number state) ∷ number size ∷ number piece_size ∷ Text name ∷ Text path ∷ []

  node_typed : (d : Database) (err : Error) → ¬ RefusesSource None d (stamped node_table node_params) (Values node_terms 14) err
  node_typed d err (inl h) = let bad : true ≡ false = h.1 in cc
  node_typed d err (inr h) = let bad : false ≡ true = h.1 in cc

  abbrev made : Node
  made = new_node profile id parent modified state size piece_size name path

  node_edits : (rows : Rows) (db : Database) → Holds rows db → HasKeys (with_last_node made rows) → FitsARow (node_size made)
      → IsSure (Edited store_schema Enforced db.trees (insert_edit db.trees node_table (stamped node_table node_params) node_terms 14))
  node_edits rows db has keys small =
      let params = stamped node_table node_params in
      let x : ℕ × Node = (next_key (λ n. n.0) has.nodes, made) in
      let values =
      Null ∷ number profile ∷ number id ∷ number parent ∷ Int modified ∷ number (state_number state) ∷ number size ∷ number piece_size ∷ number 0 ∷ number 0 ∷ Text name ∷ Text path ∷ Text [] ∷ Blob [] ∷ [] in
      let stored : cast_row node_table values ≡ Null ∷ node_tail x =
      rw (cast_null, cast_int (pos profile), cast_int (pos id), cast_int (pos parent), cast_int modified, cast_int (pos (state_number state)), cast_int (pos size), cast_int (pos piece_size), cast_int (pos 0)) refl in
      let edit = insert_edit db.trees node_table params node_terms 14 in
      let news = brings_next (λ n. n.0) node_tail db.trees node_table has.nodes has.node_rows params node_terms 14 values x refl stored refl in
      let after = added_next (λ n. n.0) node_tail db.trees node_table has.nodes has.node_rows params node_terms 14 values x refl stored has.rising refl in
      let are = map_last (λ (n : ℕ × Node). n.1) has.nodes x ∙ ap (λ ns. ns ++ made ∷ []) has.nodes_are in
      let unique = keeps_unique (with_last_node made rows) (has.nodes ++ x ∷ []) (with_tree db.trees 1 (edited db.trees edit)) are keys after has.replies in
      let fresh = fresh_last (λ n. n.0) node_tail db.trees node_table has.nodes has.node_rows x (below_next (λ n. n.0) node_tail has.nodes has.rising) in
      edit_sure store_schema db.trees edit refl (free_by store_schema db.trees edit (node_row x ∷ []) news refl refl refl fresh refl refl unique) (small_one store_schema edit (node_row x) news (node_fits x small))

  pub node_runs_out : (old new : State) (rows : Rows) (err : Error) → InMemory old new → Holds rows old.now → HasKeys (with_last_node made rows) → FitsARow (node_size made)
      → ExecutesInside 0 ADD_NODE.now node_params old new (Err err) → IsOutOfMemory err
  node_runs_out old new rows err mem has keys small h =
      inside_runs_out ADD_NODE.now node_params old new store_schema mem has.schema add_node_plain add_node_whole (Insert 1 (Values node_terms 14)) add_node_is (insert_is_edit 1 (Values node_terms 14))
      (insert_sure store_schema 1 store_refers node_params old.now.trees (statement_of ADD_NODE.now (understood store_schema ADD_NODE.now)) node_table refl node_terms 14 (node_typed (record { schema = store_schema; trees = old.now.trees })) (node_edits rows old.now has keys small)) err h
