-- What each statement makes of the typed rows.
use Rattle.std.proofs.Common.{◌≡◌, ℕ, ◌+◌, pos, List, [], ◌∷◌, ◌++◌, length, map, Bool, Ok, Err, Result, IsTrue, refl, sym, ap, subst, ◌∙◌, arith}
use Rattle.sqlite.specs.declared.types.Value.TheVariants.{Null, Blob}
use Rattle.sqlite.specs.Order.{Row}
use Rattle.sqlite.specs.declared.error.Error.{Error}
use Rattle.sqlite.specs.State.{State, Executes, ExecutesInside}
use Rattle.droid_store.specs.KeyedRows.{numbered_from}
use Rattle.droid_store.proofs.Inserts.{inserts}
use Rattle.droid_store.proofs.RowEdits.{added, added_next}
use Rattle.droid_store.proofs.Rising.{rising_numbered, numbered_append, next_numbered, numbered_below}
use Rattle.droid_store.proofs.Transactions.{steps, committed_kept}
use Rattle.droid_store.proofs.Values.{cast_null, cast_int}
use Rattle.droid_frame.specs.Hashes.{hash_kind_number}
use Rattle.droid_frame.specs.declared.hash_kind.HashKind.{HashKind}
use Rattle.droid_store.specs.declared.rows.Entry.{Entry}
use Rattle.droid_store.specs.declared.rows.ProfileRow.{ProfileRow}
use Rattle.droid_store.specs.declared.statements.TheConstants.{ADD_PROFILE, ADD_REPLY}
use Rattle.droid_store.specs.Changes.{with_profile, with_reply}
use Rattle.droid_store.specs.Encoded.{number, flag, profile_row, reply_row}
use Rattle.droid_store.specs.Kept.{Holds, Steps, Saves}
use Rattle.droid_store.specs.Rows.{Rows}
use Rattle.droid_store.specs.Tables.{profiles, replies, store_schema}
use Rattle.droid_store.proofs.Meanings.{add_profile_is, add_profile_plain, profile_terms, add_reply_is, add_reply_plain, reply_terms}

-- a statement in a transaction is a step, if it does to the rows what it should where it succeeds
pub stepped : (sql : List ℕ) (params : Row) (old new : State) (r : Result ℕ Error) (before after : Rows) → (IsTrue old.in_transaction → ExecutesInside 0 sql params old new r)
    → ((count : ℕ) → Holds before old.now → Executes sql params old new (Ok count) → Holds after new.now) → Steps old new r before after
stepped sql params old new (Ok count) before after ran does saved has = steps sql params old new count (Holds before) (Holds saved) (Holds after) has (ran has.within) (does count)
stepped sql params old new (Err e) before after ran does saved has = tt

pub kept_safe : (sql : List ℕ) (params : Row) (old new : State) (r : Result ℕ Error) (before : Rows) → IsTrue new.is_open → (IsTrue old.in_transaction → ExecutesInside 0 sql params old new r) → Saves old new r before
kept_safe sql params old new (Ok count) before live ran saved has = tt
kept_safe sql params old new (Err e) before live ran saved has = subst (Holds saved) (sym (committed_kept sql params old new (Err e) live (ran has.within))) has.saved

abbrev pub profile_tail : ℕ × ProfileRow → Row
profile_tail p = Null ∷ number p.1.scan_limit ∷ flag p.1.match_all ∷ number p.1.nodes ∷ number (hash_kind_number p.1.hash) ∷ []

pub adds_profile : (old new : State) (profile limit : ℕ) (all : Bool) (hash : HashKind) (rows : Rows) → profile ≡ length rows.profiles + 1 → (count : ℕ) → Holds rows old.now
    → Executes ADD_PROFILE.now (number profile ∷ number limit ∷ flag all ∷ number (hash_kind_number hash) ∷ []) old new (Ok count) → Holds (with_profile limit all hash rows) new.now
adds_profile old new profile limit all hash rows next count has h =
    let params = number profile ∷ number limit ∷ flag all ∷ number (hash_kind_number hash) ∷ [] in
    let it = inserts store_schema 0 profiles refl (λ db edit none. refl) ADD_PROFILE.now params old new profile_terms 6 count has.schema add_profile_is add_profile_plain h in
    let row : ProfileRow = record { scan_limit = limit; match_all = all; nodes = 0; hash = hash } in
    let values = number profile ∷ Null ∷ number limit ∷ flag all ∷ number 0 ∷ number (hash_kind_number hash) ∷ [] in
    let added = added (λ p. p.0) profile_tail old.now.trees profiles (numbered_from 1 rows.profiles) has.profiles params profile_terms 6 values (profile, row) refl
    (rw (cast_null, cast_int (pos profile), cast_int (pos limit), cast_int _, cast_int (pos 0), cast_int (pos (hash_kind_number hash))) refl) (numbered_below 1 profile rows.profiles (omega arith)) in
    let place : profile ≡ 1 + length rows.profiles = omega arith in
    record {
      schema = it.0;
      profiles = it.1.rows ∙ added ∙ ap (map profile_row) (ap (λ n. numbered_from 1 rows.profiles ++ (n, row) ∷ []) place ∙ sym (numbered_append 1 rows.profiles row));
      nodes = has.nodes;
      nodes_are = has.nodes_are;
      rising = has.rising;
      node_rows = it.1.tables.1.0 (omega arith) ∙ has.node_rows;
      replies = it.1.tables.1.1.0 (omega arith) ∙ has.replies;
      words = has.words;
    }

abbrev pub reply_tail : ℕ × Entry → Row
reply_tail e = Null ∷ number e.1.client ∷ number e.1.number ∷ number e.1.version ∷ number e.1.kind ∷ Blob e.1.mark ∷ Blob e.1.body ∷ []

pub adds_reply : (old new : State) (e : Entry) (rows : Rows) (count : ℕ) → Holds rows old.now
    → Executes ADD_REPLY.now (number e.client ∷ number e.number ∷ number e.version ∷ number e.kind ∷ Blob e.mark ∷ Blob e.body ∷ []) old new (Ok count) → Holds (with_reply e rows) new.now
adds_reply old new e rows count has h =
    let params = number e.client ∷ number e.number ∷ number e.version ∷ number e.kind ∷ Blob e.mark ∷ Blob e.body ∷ [] in
    let table = record replies { tree = 4 } in
    let it = inserts store_schema 2 table refl (λ db edit none. refl) ADD_REPLY.now params old new reply_terms 8 count has.schema add_reply_is add_reply_plain h in
    let values = Null ∷ Null ∷ number e.client ∷ number e.number ∷ number e.version ∷ number e.kind ∷ Blob e.mark ∷ Blob e.body ∷ [] in
    let added = added_next (λ x. x.0) reply_tail old.now.trees table (numbered_from 1 rows.replies) has.replies params reply_terms 8 values (1 + length rows.replies, e) refl
    (rw (cast_null, cast_int (pos e.client), cast_int (pos e.number), cast_int (pos e.version), cast_int (pos e.kind)) refl) (rising_numbered 1 rows.replies) (sym (next_numbered rows.replies)) in
    record {
      schema = it.0;
      profiles = it.1.tables.0 (omega arith) ∙ has.profiles;
      nodes = has.nodes;
      nodes_are = has.nodes_are;
      rising = has.rising;
      node_rows = it.1.tables.1.0 (omega arith) ∙ has.node_rows;
      replies = it.1.rows ∙ added ∙ ap (map reply_row) (sym (numbered_append 1 rows.replies e));
      words = has.words;
    }
