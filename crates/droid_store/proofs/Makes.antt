-- The three tables are made.
use Rattle.std.proofs.Common.{ℕ, [], ◌∷◌, Ok, Err, Result, OnOk, refl, sym, ◌∙◌}
use Rattle.sqlite.specs.State.{State, Executes}
use Rattle.sqlite.specs.declared.error.Error.{Error}
use Rattle.droid_store.specs.Transactions.{Settled}
use Rattle.droid_store.proofs.Creates.{creates}
use Rattle.droid_store.specs.declared.statements.TheConstants.{MAKE_PROFILES, MAKE_NODES, MAKE_REPLIES}
use Rattle.droid_store.specs.Kept.{Holds, HasEmpty}
use Rattle.droid_store.specs.Rows.{no_rows}
use Rattle.droid_store.specs.Tables.{profiles, nodes, replies, no_schema, first_schema, second_schema}
use Rattle.droid_store.proofs.Meanings.{profiles_is, profiles_plain, nodes_is, nodes_plain, replies_is, replies_plain}

pub makes_profiles : (old new : State) (r : Result ℕ Error) → Settled old (HasEmpty no_schema []) → Executes MAKE_PROFILES.now [] old new r → OnOk r (Settled new (HasEmpty first_schema (0 ∷ [])))
makes_profiles old new (Err e) has h = tt
makes_profiles old new (Ok count) has h =
    let it = creates no_schema profiles MAKE_PROFILES.now profiles_is.0 profiles_is.1 profiles_is.2 profiles_plain refl old new count has.holds.schema h in
    let shown = rw has.autocommit at it.3 in
    record { holds = record { schema = it.0; empty = (it.1, tt) }; autocommit = shown.mode; settled = sym shown.committed_is }

pub makes_nodes : (old new : State) (r : Result ℕ Error) → Settled old (HasEmpty first_schema (0 ∷ [])) → Executes MAKE_NODES.now [] old new r → OnOk r (Settled new (HasEmpty second_schema (0 ∷ 1 ∷ [])))
makes_nodes old new (Err e) has h = tt
makes_nodes old new (Ok count) has h =
    let it = creates first_schema nodes MAKE_NODES.now nodes_is.0 nodes_is.1 nodes_is.2 nodes_plain refl old new count has.holds.schema h in
    let shown = rw has.autocommit at it.3 in
    record { holds = record { schema = it.0; empty = (it.2.0 ∙ has.holds.empty.0, (it.1, tt)) }; autocommit = shown.mode; settled = sym shown.committed_is }

pub makes_replies : (old new : State) (r : Result ℕ Error) → Settled old (HasEmpty second_schema (0 ∷ 1 ∷ [])) → Executes MAKE_REPLIES.now [] old new r → OnOk r (Settled new (Holds no_rows))
makes_replies old new (Err e) has h = tt
makes_replies old new (Ok count) has h =
    let it = creates second_schema replies MAKE_REPLIES.now replies_is.0 replies_is.1 replies_is.2 replies_plain refl old new count has.holds.schema h in
    let shown = rw has.autocommit at it.3 in
    record {
      holds = record {
        schema = it.0;
        profiles = it.2.0 ∙ has.holds.empty.0;
        nodes = [];
        nodes_are = refl;
        rising = tt;
        node_rows = it.2.1.0 ∙ has.holds.empty.1.0;
        replies = it.1;
        words = tt;
      };
      autocommit = shown.mode;
      settled = sym shown.committed_is;
    }
