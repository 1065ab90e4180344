-- What the look-up of a kept reply gives.
use Rattle.std.proofs.Common.{◌≡◌, ◌==◌, ℕ, [], ◌∷◌, Some, None, Err, Result, IsTrue, IfOk, option_map, refl}
use Rattle.std.specs.List.{list_all}
use Rattle.sqlite.specs.declared.error.Error.{Error}
use Rattle.sqlite.specs.declared.error.Error.TheVariants.{QueryReturnedNoRows}
use Rattle.sqlite.specs.Order.{Row}
use Rattle.sqlite.specs.Term.{holds}
use Rattle.sqlite.specs.State.{State, QueriesRow}
use Rattle.droid_store.specs.KeyedRows.{numbered_from}
use Rattle.droid_store.specs.Transactions.{Settled}
use Rattle.droid_store.proofs.Comparisons.{equal_numbers, all_of_two}
use Rattle.droid_store.proofs.LookUps.{looks_up}
use Rattle.droid_store.proofs.Rising.{numbered_values}
use Rattle.droid_store.proofs.SeenRows.{finds_seen, none_shown}
use Rattle.droid_store.specs.declared.rows.Entry.{Entry}
use Rattle.droid_store.specs.declared.statements.TheConstants.{FIND_REPLY}
use Rattle.droid_store.specs.Encoded.{number, reply_row}
use Rattle.droid_store.specs.Kept.{Holds, AreApart}
use Rattle.droid_store.specs.Rows.{Rows, is_for, reply_for}
use Rattle.droid_store.specs.Tables.{store_schema}
use Rattle.droid_store.proofs.Meanings.{by_sender, find_reply_query, find_reply_is, find_reply_plain}
pub use Rattle.droid_store.specs.Shown.{shown_reply}

passes : (client sent : ℕ) (x : ℕ × Entry) → list_all (holds ((number client ∷ number sent ∷ []) ∷ reply_row x ∷ [])) by_sender ≡ is_for client sent x.1
passes client sent x = rw (equal_numbers x.1.client client, equal_numbers x.1.number sent) (all_of_two (x.1.client == client) (x.1.number == sent))

pub finds_reply : (old new : State) (client sent : ℕ) (rows : Rows) (r : Result Row Error) → IsTrue new.is_open → Settled old (Holds rows) → AreApart rows
    → QueriesRow FIND_REPLY.now (number client ∷ number sent ∷ []) old new r
    → Settled new (Holds rows) × IfOk r (λ row. Some row ≡ option_map shown_reply (reply_for client sent rows)) × (r ≡ Err QueryReturnedNoRows → reply_for client sent rows ≡ None)
finds_reply old new client sent rows r live has apart ran =
    let params = number client ∷ number sent ∷ [] in
    let it = looks_up FIND_REPLY.now params old new (Holds rows) store_schema find_reply_query _ (option_map shown_reply (reply_for client sent rows)) live has has.holds.schema find_reply_is.0 find_reply_plain find_reply_is.1
    (finds_seen reply_row (is_for client sent) shown_reply 4 by_sender _ params (passes client sent) (λ x. refl) old.now.trees (numbered_from 1 rows.replies) rows.replies has.holds.replies (numbered_values 1 rows.replies) (apart.replies client sent)) r ran in
    (it.0, it.1, λ none. none_shown shown_reply (reply_for client sent rows) (it.2 none))
