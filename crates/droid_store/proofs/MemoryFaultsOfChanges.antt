-- An UPDATE or a DELETE of the store fails only if memory runs out.
use Rattle.std.proofs.Common.{◌≡◌, ◌≤◌, ℕ, pos, List, [], ◌∷◌, length, map, filter, find, Bool, true, false, not, inl, inr, Option, Some, None, Err, refl, sym, ap, ◌∙◌}
use Rattle.std.specs.Option.{option_to_list}
use Rattle.sqlite_rules.specs.Calls.{ids_of}
use Rattle.sqlite_schema.specs.declared.schema.Keys.TheVariants.{Enforced}
use Rattle.sqlite_schema.specs.Rules.{references_fit}
use Rattle.sqlite.specs.declared.types.Value.TheVariants.{Text, Blob}
use Rattle.sqlite.specs.declared.error.Error.{Error}
use Rattle.sqlite.specs.Cast.{cast_row}
use Rattle.sqlite.specs.Command.TheVariants.{Update, Delete}
use Rattle.sqlite.specs.Edit.{edit_of, edited}
use Rattle.sqlite.specs.Effect.{Database, Answers, RefusesQuery}
use Rattle.sqlite.specs.Listing.{understood}
use Rattle.sqlite.specs.Order.{Row}
use Rattle.sqlite.specs.Rowids.TheVariants.{Given}
use Rattle.sqlite.specs.Rows.{Edited}
use Rattle.sqlite.specs.State.{State, ExecutesInside}
use Rattle.sqlite.specs.Term.{col}
use Rattle.sqlite.specs.Tree.{Trees, with_tree}
use Rattle.sqlite.proofs.Callers.{statement_of}
use Rattle.droid_frame.specs.Hashes.{hash_bytes, hash_kind_number}
use Rattle.droid_frame.specs.declared.hash_value.HashValue.{HashValue}
use Rattle.droid_frame.specs.declared.method.Method.{Method}
use Rattle.droid_store.specs.KeyedRows.{numbered_from, changed_where}
use Rattle.droid_store.specs.MemoryFaults.{IsOutOfMemory, InMemory, IsSure}
use Rattle.droid_store.proofs.AtMostOne.{filter_seen, changed_seen}
use Rattle.droid_store.proofs.Comparisons.{equal_numbers}
use Rattle.droid_store.proofs.RewrittenRows.{never_overflows, rewrite_sure, remove_sure}
use Rattle.droid_store.proofs.Rising.{rising_numbered}
use Rattle.droid_store.proofs.RowEdits.{written, removed}
use Rattle.droid_store.proofs.SeenRows.{few_seen}
use Rattle.droid_store.proofs.Selects.{selects, filter_few}
use Rattle.droid_store.proofs.SureEdits.{update_sure, delete_sure}
use Rattle.droid_store.proofs.Values.{cast_null, cast_int}
use Rattle.droid_store.proofs.MemoryFaults.{inside_runs_out, update_is_edit, delete_is_edit}
use Rattle.droid_store.specs.declared.rows.ProfileRow.{ProfileRow}
use Rattle.droid_store.specs.declared.statements.TheConstants.{COUNT_NODES, FINISH_NODE, REMOVE_NODE}
use Rattle.droid_store.specs.Changes.{finished, with_finished, without_node}
use Rattle.droid_frame.specs.Fields.{method_number}
use Rattle.droid_store.specs.Encoded.{number, flag, joined, profile_row, node_row}
use Rattle.droid_store.specs.Kept.{Holds, HasKeys}
use Rattle.droid_store.specs.Rows.{Node, Rows, is_node, node_at}
use Rattle.droid_store.specs.Sizes.{node_size, FitsARow}
use Rattle.droid_store.specs.Tables.{profiles, store_schema}
use Rattle.droid_store.proofs.ChangesNodes.{passes, stored, with_puids}
use Rattle.droid_store.proofs.Effects.{profile_tail}
use Rattle.droid_store.proofs.Meanings.{by_id, by_number, count_columns, count_query, count_is, count_plain, count_whole, finished_columns, finish_query, finish_is, finish_plain, finish_whole, remove_query, remove_is, remove_plain, remove_whole}
use Rattle.droid_store.proofs.NodeEffects.{node_tail, and-true, few_rising, counting, has_number}
use Rattle.droid_store.proofs.NodeOrder.{few_numbered}
use Rattle.droid_store.proofs.Unique.{node_table, keeps_unique, store_refers}
use Rattle.droid_store.proofs.MemoryFaultsIn.{profile_fits, node_fits}

profiles_refer : (adds removes : Bool) → references_fit store_schema profiles adds removes ≡ true
profiles_refer true true = refl
profiles_refer true false = refl
profiles_refer false true = refl
profiles_refer false false = refl

nodes_refer : (adds removes : Bool) → references_fit store_schema node_table adds removes ≡ true
nodes_refer true true = refl
nodes_refer true false = refl
nodes_refer false true = refl
nodes_refer false false = refl

-- ---- a profile counts its nodes

abbrev pub count_params : ℕ → ℕ → Row
count_params profile count = number profile ∷ number count ∷ []

count_typed : (profile count : ℕ) (db : Trees) (err : Error) → ¬ RefusesQuery None (record { schema = store_schema; trees = db }) (record { lets = []; body = count_query }) (count_params profile count) err
count_typed profile count db err (inl h) = let bad : true ≡ false = h.1 in cc
count_typed profile count db err (inr (inl h)) = never_overflows db 0 by_id count_columns [] (count_params profile count) h.1
count_typed profile count db err (inr (inr h)) = let bad : false ≡ true = h.1 in cc

stored_profile : (p : ℕ × ProfileRow) → cast_row profiles (profile_row p) ≡ profile_row p
stored_profile p = rw (cast_int (pos p.0), cast_null, cast_int (pos p.1.scan_limit), cast_int _, cast_int (pos p.1.nodes), cast_int (pos (hash_kind_number p.1.hash))) refl

count_edits : (profile count : ℕ) (rows : Rows) (db : Database) → Holds rows db → HasKeys rows → (found : List Row) → Answers (record { schema = store_schema; trees = db.trees }) (record { lets = []; body = count_query }) (count_params profile count) found
    → IsSure (Edited store_schema Enforced db.trees (edit_of db.trees profiles (ids_of found) Given 1 found))
count_edits profile count rows db has keys found answers =
    let xs = numbered_from 1 rows.profiles in
    let few = few_rising (λ p. p.0) profile xs (rising_numbered 1 rows.profiles) in
    let are = selects profile_row (has_number profile) (λ p. number p.0 ∷ profile_row (counting count p)) 0 by_id count_columns [] (count_params profile count) (λ p. rw (equal_numbers p.0 profile) (and-true _)) (λ p. refl)
    db.trees xs found has.profiles few answers.answer in
    let unique = keeps_unique rows has.nodes (with_tree db.trees 0 (edited db.trees (edit_of db.trees profiles (ids_of found) Given 1 found))) has.nodes_are keys has.node_rows has.replies in
    rewrite_sure store_schema db.trees profiles (λ trees edit. refl) profiles_refer (λ p. p.0) profile_tail xs (has_number profile) few (counting count) (λ p. refl) stored_profile (λ p. refl) (λ p. refl) (λ p. refl)
    (λ p only. profile_fits (counting count p)) found are unique

pub count_runs_out : (old new : State) (profile count : ℕ) (rows : Rows) (err : Error) → InMemory old new → Holds rows old.now → HasKeys rows → ExecutesInside 0 COUNT_NODES.now (count_params profile count) old new (Err err) → IsOutOfMemory err
count_runs_out old new profile count rows err mem has keys h =
    inside_runs_out COUNT_NODES.now (count_params profile count) old new store_schema mem has.schema count_plain count_whole (Update 0 (record { lets = []; body = count_query })) count_is (update_is_edit 0 (record { lets = []; body = count_query }))
    (update_sure store_schema 0 store_refers (count_params profile count) old.now.trees (statement_of COUNT_NODES.now (understood store_schema COUNT_NODES.now)) profiles refl (record { lets = []; body = count_query })
    (count_typed profile count old.now.trees) (count_edits profile count rows old.now has keys)) err h

-- ---- a node is finished

only : (o : Option Node) (n : Node) → option_to_list o ≡ n ∷ [] → o ≡ Some n
only None n e = absurd cc
only (Some m) n e = let same : m ≡ n = cc in ap Some same

-- the node that a test on numbers finds
found_node : (profile file : ℕ) (ns : List (ℕ × Node)) (rows : Rows) (x : ℕ × Node) → map (λ (n : ℕ × Node). n.1) ns ≡ rows.nodes → length (filter (is_node profile file) rows.nodes) ≤ 1 → filter (λ (n : ℕ × Node). is_node profile file n.1) ns ≡ x ∷ []
    → node_at profile file rows ≡ Some x.1
found_node profile file ns rows x are few found =
    only (find (is_node profile file) rows.nodes) x.1
    (sym (filter_few (is_node profile file) rows.nodes few) ∙ ap (filter (is_node profile file)) (sym are) ∙ filter_seen (λ (n : ℕ × Node). n.1) (is_node profile file) ns ∙ ap (map (λ (n : ℕ × Node). n.1)) found)

module _ (profile file : ℕ) (method : Method) (mismatch : Bool) (hash : HashValue) (puids : List (List ℕ)) where
  abbrev pub finish_params : Row
  finish_params = number profile ∷ number file ∷ number (method_number method) ∷ flag mismatch ∷ Text (joined puids) ∷ Blob (hash_bytes hash) ∷ []

  finish_typed : (db : Trees) (err : Error) → ¬ RefusesQuery None (record { schema = store_schema; trees = db }) (record { lets = []; body = finish_query }) finish_params err
  finish_typed db err (inl h) = let bad : true ≡ false = h.1 in cc
  finish_typed db err (inr (inl h)) = never_overflows db 1 by_number finished_columns [] finish_params h.1
  finish_typed db err (inr (inr h)) = let bad : false ≡ true = h.1 in cc

  finish_edits : (rows : Rows) (db : Database) → Holds rows db → HasKeys rows → HasKeys (with_finished profile file method mismatch hash puids rows)
      → ((n : Node) → node_at profile file rows ≡ Some n → FitsARow (node_size (finished method mismatch hash puids n)))
      → (found : List Row) → Answers (record { schema = store_schema; trees = db.trees }) (record { lets = []; body = finish_query }) finish_params found
      → IsSure (Edited store_schema Enforced db.trees (edit_of db.trees node_table (ids_of found) Given 1 found))
  finish_edits rows db has keys later small found answers =
      let more = number (method_number method) ∷ flag mismatch ∷ Text (joined puids) ∷ Blob (hash_bytes hash) ∷ [] in
      let change = with_puids method mismatch hash puids in
      let test : ℕ × Node → Bool = λ x. is_node profile file x.1 in
      let lone = few_numbered profile file rows.nodes keys.numbers in
      let few = few_seen (is_node profile file) has.nodes rows.nodes has.nodes_are lone in
      let are = selects node_row test (λ x. number x.0 ∷ node_row (change x)) 1 by_number finished_columns [] finish_params (passes profile file more) (λ x. refl) db.trees has.nodes found has.node_rows few answers.answer in
      let wrote = written (λ x. x.0) node_tail db.trees node_table has.nodes has.node_rows test has.rising few change (λ x. refl) stored found are in
      let seen = changed_seen (λ (x : ℕ × Node). x.1) (is_node profile file) change (finished method mismatch hash puids) (λ x. refl) has.nodes ∙ ap (map (changed_where (is_node profile file) (finished method mismatch hash puids))) has.nodes_are in
      let unique = keeps_unique (with_finished profile file method mismatch hash puids rows) (map (changed_where test change) has.nodes) (with_tree db.trees 1 (edited db.trees (edit_of db.trees node_table (ids_of found) Given 1 found))) seen later wrote has.replies in
      rewrite_sure store_schema db.trees node_table (λ trees edit. refl) nodes_refer (λ x. x.0) node_tail has.nodes test few change (λ x. refl) stored (λ x. refl) (λ x. refl) (λ x. refl)
      (λ x one. node_fits (change x) (small x.1 (found_node profile file has.nodes rows x has.nodes_are lone one))) found are unique

  pub finish_runs_out : (old new : State) (rows : Rows) (err : Error) → InMemory old new → Holds rows old.now → HasKeys rows → HasKeys (with_finished profile file method mismatch hash puids rows)
      → ((n : Node) → node_at profile file rows ≡ Some n → FitsARow (node_size (finished method mismatch hash puids n))) → ExecutesInside 0 FINISH_NODE.now finish_params old new (Err err) → IsOutOfMemory err
  finish_runs_out old new rows err mem has keys later small h =
      inside_runs_out FINISH_NODE.now finish_params old new store_schema mem has.schema finish_plain finish_whole (Update 1 (record { lets = []; body = finish_query })) finish_is (update_is_edit 1 (record { lets = []; body = finish_query }))
      (update_sure store_schema 1 store_refers finish_params old.now.trees (statement_of FINISH_NODE.now (understood store_schema FINISH_NODE.now)) node_table refl (record { lets = []; body = finish_query })
      (finish_typed old.now.trees) (finish_edits rows old.now has keys later small)) err h

-- ---- a node is taken out

abbrev pub remove_params : ℕ → ℕ → Row
remove_params profile file = number profile ∷ number file ∷ []

remove_typed : (profile file : ℕ) (db : Trees) (err : Error) → ¬ RefusesQuery None (record { schema = store_schema; trees = db }) (record { lets = []; body = remove_query }) (remove_params profile file) err
remove_typed profile file db err (inl h) = let bad : true ≡ false = h.1 in cc
remove_typed profile file db err (inr (inl h)) = never_overflows db 1 by_number (col 1 0 ∷ []) [] (remove_params profile file) h.1
remove_typed profile file db err (inr (inr h)) = let bad : false ≡ true = h.1 in cc

remove_edits : (profile file : ℕ) (rows : Rows) (db : Database) → Holds rows db → HasKeys rows → HasKeys (without_node profile file rows)
    → (found : List Row) → Answers (record { schema = store_schema; trees = db.trees }) (record { lets = []; body = remove_query }) (remove_params profile file) found
    → IsSure (Edited store_schema Enforced db.trees (edit_of db.trees node_table (ids_of found) Given 0 []))
remove_edits profile file rows db has keys later found answers =
    let test : ℕ × Node → Bool = λ x. is_node profile file x.1 in
    let few = few_seen (is_node profile file) has.nodes rows.nodes has.nodes_are (few_numbered profile file rows.nodes keys.numbers) in
    let are = selects node_row test (λ x. number x.0 ∷ []) 1 by_number _ [] (remove_params profile file) (passes profile file []) (λ x. refl) db.trees has.nodes found has.node_rows few answers.answer in
    let gone = removed (λ x. x.0) node_tail db.trees node_table has.nodes has.node_rows test has.rising few found are in
    let seen = sym (filter_seen (λ (x : ℕ × Node). x.1) (λ n. not (is_node profile file n)) has.nodes) ∙ ap (filter (λ n. not (is_node profile file n))) has.nodes_are in
    remove_sure store_schema db.trees node_table (λ trees edit. refl) nodes_refer found
    (keeps_unique (without_node profile file rows) (filter (λ x. not (test x)) has.nodes) (with_tree db.trees 1 (edited db.trees (edit_of db.trees node_table (ids_of found) Given 0 []))) seen later gone has.replies)

pub remove_runs_out : (old new : State) (profile file : ℕ) (rows : Rows) (err : Error) → InMemory old new → Holds rows old.now → HasKeys rows → HasKeys (without_node profile file rows)
    → ExecutesInside 0 REMOVE_NODE.now (remove_params profile file) old new (Err err) → IsOutOfMemory err
remove_runs_out old new profile file rows err mem has keys later h =
    inside_runs_out REMOVE_NODE.now (remove_params profile file) old new store_schema mem has.schema remove_plain remove_whole (Delete 1 (record { lets = []; body = remove_query })) remove_is (delete_is_edit 1 (record { lets = []; body = remove_query }))
    (delete_sure store_schema 1 store_refers (remove_params profile file) old.now.trees (statement_of REMOVE_NODE.now (understood store_schema REMOVE_NODE.now)) node_table refl (record { lets = []; body = remove_query })
    (remove_typed profile file old.now.trees) (remove_edits profile file rows old.now has keys later)) err h
