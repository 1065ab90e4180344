-- What the listing of a profile's folders and finished files gives.
use Rattle.std.proofs.Common.{◌≡◌, ◌&&◌, ◌==◌, ℕ, List, [], ◌∷◌, map, filter, Bool, true, false, not, refl}
use Rattle.std.specs.List.{list_all}
use Rattle.sqlite.specs.Order.{Row}
use Rattle.sqlite.specs.Term.{holds, col}
use Rattle.sqlite.specs.State.{State, Shown}
use Rattle.droid_store.specs.Transactions.{Settled}
use Rattle.droid_store.proofs.Comparisons.{equal_numbers, different_numbers}
use Rattle.droid_store.proofs.Listings.{reads_rows}
use Rattle.droid_store.proofs.SeenRows.{lists_seen}
use Rattle.droid_store.specs.declared.rows.NodeState.{NodeState}
use Rattle.droid_store.specs.declared.rows.NodeState.TheVariants.{Folder, Unfinished, Finished}
use Rattle.droid_store.specs.declared.statements.TheConstants.{LIST_RECORDS}
use Rattle.droid_store.specs.Encoded.{number, state_number, node_row}
use Rattle.droid_store.specs.Kept.{Holds, AreApart}
use Rattle.droid_store.specs.Rows.{Node, Rows, is_unfinished, is_listed}
use Rattle.droid_store.specs.Tables.{store_schema}
use Rattle.droid_store.proofs.FindsNodes.{shown_node}
use Rattle.droid_store.proofs.Meanings.{listed, node_columns, records_query, records_is, records_plain}
use Rattle.droid_store.proofs.NodeOrder.{rising_listed}

state_differs : (a : Bool) (s : NodeState) → (a && (not (state_number s == 1) && true)) ≡ (a && not (is_unfinished s))
state_differs true Folder = refl
state_differs true Unfinished = refl
state_differs true Finished = refl
state_differs false s = refl

passes : (profile : ℕ) (x : ℕ × Node) → list_all (holds ((number profile ∷ []) ∷ node_row x ∷ [])) listed ≡ is_listed profile x.1
passes profile x = rw (equal_numbers x.1.profile profile, different_numbers (state_number x.1.state) 1) (state_differs _ x.1.state)

pub lists_records : (old new : State) (profile : ℕ) (rows : Rows) (answer : List Row) → Settled old (Holds rows) → AreApart rows → Shown LIST_RECORDS.now (number profile ∷ []) old new answer
    → Settled new (Holds rows) × (answer ≡ map shown_node (filter (is_listed profile) rows.nodes))
lists_records old new profile rows answer has apart ran =
    let params = number profile ∷ [] in
    reads_rows LIST_RECORDS.now params old new (Holds rows) store_schema records_query _ (map shown_node (filter (is_listed profile) rows.nodes)) has has.holds.schema records_is.0 records_plain records_is.1
    (lists_seen node_row (is_listed profile) shown_node 1 listed node_columns params (passes profile) (λ x. refl) (col 1 2) (λ n. n.id) (λ x. refl) old.now.trees has.holds.nodes rows.nodes has.holds.node_rows has.holds.nodes_are (rising_listed profile rows.nodes apart.numbers)) answer ran
