-- What the look-ups of a node give: by its number, and by where it lies under what name.
use Rattle.std.proofs.Common.{◌≡◌, ◌==◌, bytes_eq, ℕ, List, [], ◌∷◌, Some, None, Err, Result, IsTrue, IfOk, option_map, refl}
use Rattle.std.specs.List.{list_all}
use Rattle.sqlite.specs.declared.types.Value.TheVariants.{Text}
use Rattle.sqlite.specs.declared.error.Error.{Error}
use Rattle.sqlite.specs.declared.error.Error.TheVariants.{QueryReturnedNoRows}
use Rattle.sqlite.specs.Order.{Row}
use Rattle.sqlite.specs.Term.{holds}
use Rattle.sqlite.specs.State.{State, QueriesRow}
use Rattle.droid_store.specs.Transactions.{Settled}
use Rattle.droid_store.proofs.Comparisons.{equal_numbers, equal_texts, all_of_two, all_of_three}
use Rattle.droid_store.proofs.LookUps.{looks_up}
use Rattle.droid_store.proofs.SeenRows.{finds_seen, none_shown}
use Rattle.droid_store.specs.declared.statements.TheConstants.{FIND_NODE, FIND_CHILD}
use Rattle.droid_store.specs.Encoded.{number, node_row}
use Rattle.droid_store.specs.Kept.{Holds, AreApart}
use Rattle.droid_store.specs.Rows.{Node, Rows, is_node, node_at, is_child, child_at}
use Rattle.droid_store.specs.Tables.{store_schema}
use Rattle.droid_store.proofs.Meanings.{by_number, by_name, find_node_query, find_node_is, find_node_plain, find_child_query, find_child_is, find_child_plain}
use Rattle.droid_store.proofs.NodeOrder.{few_numbered}
pub use Rattle.droid_store.specs.Shown.{shown_node, shown_id}

pub passes_number : (profile id : ℕ) (x : ℕ × Node) → list_all (holds ((number profile ∷ number id ∷ []) ∷ node_row x ∷ [])) by_number ≡ is_node profile id x.1
passes_number profile id x = rw (equal_numbers x.1.profile profile, equal_numbers x.1.id id) (all_of_two (x.1.profile == profile) (x.1.id == id))

passes_name : (profile parent : ℕ) (name : List ℕ) (x : ℕ × Node) → list_all (holds ((number profile ∷ number parent ∷ Text name ∷ []) ∷ node_row x ∷ [])) by_name ≡ is_child profile parent name x.1
passes_name profile parent name x = rw (equal_numbers x.1.profile profile, equal_numbers x.1.parent parent, equal_texts x.1.name name) (all_of_three (x.1.profile == profile) (x.1.parent == parent) (bytes_eq x.1.name name))

pub finds_node : (old new : State) (profile id : ℕ) (rows : Rows) (r : Result Row Error) → IsTrue new.is_open → Settled old (Holds rows) → AreApart rows
    → QueriesRow FIND_NODE.now (number profile ∷ number id ∷ []) old new r
    → Settled new (Holds rows) × IfOk r (λ row. Some row ≡ option_map shown_node (node_at profile id rows)) × (r ≡ Err QueryReturnedNoRows → node_at profile id rows ≡ None)
finds_node old new profile id rows r live has apart ran =
    let params = number profile ∷ number id ∷ [] in
    let it = looks_up FIND_NODE.now params old new (Holds rows) store_schema find_node_query _ (option_map shown_node (node_at profile id rows)) live has has.holds.schema find_node_is.0 find_node_plain find_node_is.1
    (finds_seen node_row (is_node profile id) shown_node 1 by_number _ params (passes_number profile id) (λ x. refl) old.now.trees has.holds.nodes rows.nodes has.holds.node_rows has.holds.nodes_are (few_numbered profile id rows.nodes apart.numbers)) r ran in
    (it.0, it.1, λ none. none_shown shown_node (node_at profile id rows) (it.2 none))

pub finds_child : (old new : State) (profile parent : ℕ) (name : List ℕ) (rows : Rows) (r : Result Row Error) → IsTrue new.is_open → Settled old (Holds rows) → AreApart rows
    → QueriesRow FIND_CHILD.now (number profile ∷ number parent ∷ Text name ∷ []) old new r
    → Settled new (Holds rows) × IfOk r (λ row. Some row ≡ option_map shown_id (child_at profile parent name rows)) × (r ≡ Err QueryReturnedNoRows → child_at profile parent name rows ≡ None)
finds_child old new profile parent name rows r live has apart ran =
    let params = number profile ∷ number parent ∷ Text name ∷ [] in
    let it = looks_up FIND_CHILD.now params old new (Holds rows) store_schema find_child_query _ (option_map shown_id (child_at profile parent name rows)) live has has.holds.schema find_child_is.0 find_child_plain find_child_is.1
    (finds_seen node_row (is_child profile parent name) shown_id 1 by_name _ params (passes_name profile parent name) (λ x. refl) old.now.trees has.holds.nodes rows.nodes has.holds.node_rows has.holds.nodes_are (apart.children profile parent name)) r ran in
    (it.0, it.1, λ none. none_shown shown_id (child_at profile parent name rows) (it.2 none))
