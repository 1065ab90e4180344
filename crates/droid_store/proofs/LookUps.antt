-- What a look-up of one row gives, whatever comes of it, and that it changes nothing.
use Rattle.std.proofs.Common.{◌≡◌, inl, inr, ℕ, List, [], ◌∷◌, false, Some, None, Option, Ok, Err, Result, IsTrue, IfOk, refl, sym, ap, subst, ◌∙◌}
use Rattle.std.specs.Option.{option_to_list}
use Rattle.sqlite.specs.Order.{Row}
use Rattle.sqlite.specs.Schema.{Schema}
use Rattle.sqlite.specs.Command.TheVariants.{Select}
use Rattle.sqlite_schema.specs.declared.program.Program.{Program}
use Rattle.sqlite_trees.specs.declared.error.StoreError.{StoreError}
use Rattle.sqlite_trees.specs.declared.error.StoreError.TheVariants.{OutOfMemory, Io, Corrupt, Full, Broken, Unstorable}
use Rattle.sqlite.specs.declared.error.Error.{Error}
use Rattle.sqlite.specs.declared.error.Error.TheVariants.{QueryReturnedNoRows}
use Rattle.sqlite.specs.Query.{Query, IsSureAnswer}
use Rattle.sqlite.specs.Program.{overlay}
use Rattle.sqlite.specs.Effect.{Database, RefusesToRead}
use Rattle.sqlite.specs.Clock.{timed}
use Rattle.sqlite.specs.Listing.{understood, reads_listing}
use Rattle.sqlite.specs.State.{State, store_error, IsNotRun, FailsToQuery, FailsToShow, QueriesRow}
use Rattle.sqlite.proofs.Callers.{IsPlain, command_of, reads_as, first_as}
use Rattle.droid_store.specs.Transactions.{Settled}
use Rattle.droid_store.proofs.Parts.{same_error}
use Rattle.droid_store.proofs.Transactions.{settled_unchanged, shown_unchanged, query_failed}

no_store_error : (cause : StoreError) → QueryReturnedNoRows ≡ store_error cause → ⊥
no_store_error OutOfMemory e = cc
no_store_error Io e = cc
no_store_error Corrupt e = cc
no_store_error Full e = cc
no_store_error Broken e = cc
no_store_error Unstorable e = cc

-- only an answer of no rows is reported as that
pub never_fails_so : (sql : List ℕ) (params : Row) (old new : State) (q : Program) (names : List (List ℕ)) → IsPlain (understood old.now.schema sql) → command_of (understood old.now.schema sql) ≡ Select q names
    → FailsToQuery sql params old new QueryReturnedNoRows → ⊥
unfolding FailsToQuery IsNotRun
never_fails_so sql params old new q names plain is (inl (inl (inl h, same))) = let e = h.2 in cc
never_fails_so sql params old new q names plain is (inl (inl (inr (c, known, inl h), same))) = let e = h.1 in cc
never_fails_so sql params old new q names plain is (inl (inl (inr (c, known, inr (inl h)), same))) = let e = h.1 in cc
never_fails_so sql params old new q names plain is (inl (inl (inr (c, known, inr (inr h)), same))) = let e = h.1 in cc
never_fails_so sql params old new q names plain is (inl (inr fails)) = no_store_error fails.0 fails.1
never_fails_so sql params old new q names plain is (inr (c, it, why)) =
    let bare = (subst IsPlain it.is plain).0 in
    let given = timed params c.formats it.now in
    let shown = subst (λ r. FailsToShow old new sql c given QueryReturnedNoRows r) bare why in
    let select : c.command ≡ Select q names = sym (ap command_of it.is) ∙ is in
    refused old.step_limit shown.0 given (subst (λ k. RefusesToRead old.step_limit k shown.0 given QueryReturnedNoRows) select shown.2)
  where
    refused : (limit : Option ℕ) (db : Database) (ps : Row) → RefusesToRead limit (Select q names) db ps QueryReturnedNoRows → ⊥
    refused limit db ps (inl h) = let e = h.0 in cc
    refused limit db ps (inr (inl h)) = let e = h.0 in cc
    refused limit db ps (inr (inr h)) = let e = h.0 in cc

first_of : (found : Option Row) (row : Row) (tail : List Row) → row ∷ tail ≡ option_to_list found → Some row ≡ found
first_of None row tail e = absurd cc
first_of (Some r) row tail is = cc

none_of : (found : Option Row) → [] ≡ option_to_list found → found ≡ None
none_of None e = refl
none_of (Some r) is = absurd cc

-- The text is one SELECT under the schema, which no listing of the schema answers; and each answer of it is the row that is there, or none.
module _ (sql : List ℕ) (params : Row) (old new : State) (P : Database → Type 0) (schema : Schema) (q : Query) (names : List (List ℕ)) (found : Option Row) (live : IsTrue new.is_open) (has : Settled old P)
    (schema_is : old.now.schema ≡ schema) (command : command_of (understood schema sql) ≡ Select (record { lets = []; body = q }) names) (plain : IsPlain (understood schema sql))
    (unlisted : reads_listing schema sql ≡ false) (answer : (out : List Row) → IsSureAnswer q (overlay old.now.trees []) params out → out ≡ option_to_list found) where
  now_plain : IsPlain (understood old.now.schema sql)
  now_plain = subst (λ s. IsPlain (understood s sql)) (sym schema_is) plain

  -- What was there stays. A row is the one that is there, and 'no rows' says that none is.
  pub looks_up : (r : Result Row Error) → QueriesRow sql params old new r → Settled new P × IfOk r (λ row. Some row ≡ found) × (r ≡ Err QueryReturnedNoRows → found ≡ None)
  unfolding QueriesRow
  looks_up (Ok row) (inl h) =
      let start = (first_as sql params old new schema schema_is _ command plain unlisted row (inl h)).1 in
      (settled_unchanged old new P has h.1, first_of found row start.0 (answer (row ∷ start.0) start.1), λ e. absurd cc)
  looks_up (Ok row) (inr h) =
      let start = (first_as sql params old new schema schema_is _ command plain unlisted row (inr h)).1 in
      (settled_unchanged old new P has (shown_unchanged sql params old new h.0 now_plain h.1), first_of found row start.0 (answer (row ∷ start.0) start.1), λ e. absurd cc)
  looks_up (Err e) (inl h) =
      let is = ap (λ s. command_of (understood s sql)) schema_is ∙ command in
      (query_failed sql params old new e P live now_plain has h, tt, λ same. absurd (never_fails_so sql params old new _ _ now_plain is (subst (FailsToQuery sql params old new) (same_error same) h)))
  looks_up (Err e) (inr h) =
      let all = (reads_as sql params old new schema schema_is _ command plain unlisted [] h.1).answer in
      (settled_unchanged old new P has (shown_unchanged sql params old new [] now_plain h.1), tt, λ same. none_of found (answer [] all))
