-- What a listing has given so far, and what was read of it.
use Rattle.std.proofs.Common.{◌≡◌, ℕ, List, [], ◌∷◌, ◌++◌, length, map, take, filter, Bool, Some, None, IsTrue, inl, inr, refl, sym, ap, subst, ◌∙◌}
use Rattle.std.proofs.lemmas.Bool.{cases_Bool}
use Rattle.std.specs.List.{AllByRecursion}
use Rattle.sqlite.specs.declared.error.Error.{Error}
use Rattle.sqlite.specs.Clock.{timed}
use Rattle.sqlite.specs.Given.{HasGiven, HasBegun, Advances, FailsToAdvance}
use Rattle.sqlite.specs.Held.{Held, state}
use Rattle.sqlite.specs.Listing.{understood}
use Rattle.sqlite.specs.Order.{Row}
use Rattle.sqlite.specs.State.{State, IsUnchanged, FailsToQuery}
use Rattle.sqlite.proofs.Callers.{IsPlain, EndsIn, command_of, given_begin, begins_shown, begun_plain, unchanged_then}
use Rattle.droid_frame.specs.declared.record.Record.{Record}
use Rattle.droid_store_trees.specs.declared.storage.TreeStore.{TreeStore}
use Rattle.droid_store_trees.specs.Over.{over_trees}
use Rattle.droid_store.specs.Transactions.{Settled}
use Rattle.droid_store.specs.MemoryFaults.{IsOutOfMemory}
use Rattle.droid_store.proofs.Transactions.{settled_unchanged, query_failed}
use Rattle.droid_store.proofs.MemoryFaults.{in_memory}
use Rattle.droid_store.specs.declared.statements.TheConstants.{LIST_RECORDS}
use Rattle.droid_store.specs.Changes.{IsWord}
use Rattle.droid_store.specs.Encoded.{number}
use Rattle.droid_store.specs.Kept.{kept, Holds, AreApart}
use Rattle.droid_store.specs.Ranges.{NodeFits, AreReadable}
use Rattle.droid_store.specs.Rows.{Node, Rows, is_listed, record_of, records_of}
use Rattle.droid_store.specs.Shown.{shown_node}
use Rattle.droid_store.proofs.Closed.{kept_is, kept_still}
use Rattle.droid_store.proofs.ListsRecords.{lists_records}
use Rattle.droid_store.proofs.Meanings.{records_is, records_plain}
use Rattle.droid_store.proofs.ReadableAfter.{all_readable}
use Rattle.droid_store.proofs.MemoryFaultsOfLookUps.{records_runs_out}

-- the connection is in the listing and has changed nothing, and each row that it gave was read
pub record HaveRead (old new : Held TreeStore) (profile : ℕ) (records : List Record) : Type 0 where
  pub given : List Row
  pub gives : HasGiven over_trees LIST_RECORDS.now (number profile ∷ []) new given
  pub same : IsUnchanged (state over_trees old) (state over_trees new)
  pub limit : new.step_limit ≡ old.step_limit
  pub read : records ≡ map record_of (take (length given) (filter (is_listed profile) (kept old).nodes))

-- ---- a list, shown item by item

module _ {X Y Z : Type 0} (shown : X → Y) (made : X → Z) (P : X → Type 0) where
  -- what was made of the items before, and what is made of this one
  one_more : (xs : List X) (given : List Y) (y : Y) (tail : List Y) (z : Z) → AllByRecursion P xs → (given ++ y ∷ []) ++ tail ≡ map shown xs → ((x : X) → P x → y ≡ shown x → z ≡ made x)
      → map made (take (length given) xs) ++ z ∷ [] ≡ map made (take (length (given ++ y ∷ [])) xs)
  one_more [] [] y tail z all is makes = absurd cc
  one_more [] (g ∷ given) y tail z all is makes = absurd cc
  one_more (x ∷ xs) [] y tail z all is makes = let first : y ≡ shown x = cc in ap (λ (first : Z). first ∷ []) (makes x all.0 first)
  one_more (x ∷ xs) (g ∷ given) y tail z all is makes =
      let rest : (given ++ y ∷ []) ++ tail ≡ map shown xs = cc in
      ap (λ (zs : List Z). made x ∷ zs) (one_more xs given y tail z all.1 rest makes)

  -- it shows one of them
  shows_one : (xs : List X) (given : List Y) (y : Y) (tail : List Y) (Q : Type 0) → AllByRecursion P xs → (given ++ y ∷ []) ++ tail ≡ map shown xs → ((x : X) → y ≡ shown x → P x → Q) → Q
  shows_one [] [] y tail Q all is reported = absurd cc
  shows_one [] (g ∷ given) y tail Q all is reported = absurd cc
  shows_one (x ∷ xs) [] y tail Q all is reported = let first : y ≡ shown x = cc in reported x first all.0
  shows_one (x ∷ xs) (g ∷ given) y tail Q all is reported =
      let rest : (given ++ y ∷ []) ++ tail ≡ map shown xs = cc in
      shows_one xs given y tail Q all.1 rest reported

  made_of_all : (xs : List X) → map made (take (length (map shown xs)) xs) ≡ map made xs
  made_of_all [] = refl
  made_of_all (x ∷ xs) = ap (λ (zs : List Z). made x ∷ zs) (made_of_all xs)

all_filter : {X : Type 0} (P : X → Type 0) (p : X → Bool) (xs : List X) → AllByRecursion P xs → AllByRecursion P (filter p xs)
all_filter P p [] all = tt
all_filter P p (x ∷ xs) all = elim (cases_Bool (p x)) [
  | inl passed ↦ rw passed (all.0, all_filter P p xs all.1)
  | inr failed ↦ rw failed (all_filter P p xs all.1)
]

-- ---- the listing

-- what a connection is left as that was lent
pub left : (last new : Held TreeStore) (rows : Rows) → last ≡ new → Settled (state over_trees last) (Holds rows) → (kept new ≡ rows) × Settled (state over_trees new) (Holds (kept new))
left last new rows same there =
    let here = subst (λ h. Settled (state over_trees h) (Holds rows)) same there in
    (kept_is new rows here, kept_still new rows here)

still : (s : State) → IsTrue s.is_open → IsUnchanged s s
still s live = (record { was_open = live; is_open = live; now_is = refl; committed_is = refl; mode = refl }, record { changes = refl; last_rowid = refl }, refl)

module _ (old : Held TreeStore) (profile : ℕ) (has : Settled (state over_trees old) (Holds (kept old))) where
  abbrev listed_nodes : List Node
  listed_nodes = filter (is_listed profile) (kept old).nodes

  plain : IsPlain (understood old.schema LIST_RECORDS.now)
  plain = subst (λ s. IsPlain (understood s LIST_RECORDS.now)) (sym has.holds.schema) records_plain

  pub begun : (new : Held TreeStore) → HasBegun over_trees LIST_RECORDS.now (number profile ∷ []) old new → new.step_limit ≡ old.step_limit → HaveRead old new profile []
  begun new begins limit =
      let first = begun_plain over_trees LIST_RECORDS.now (number profile ∷ []) old new plain begins in
      record { given = []; gives = first.0; same = first.1; limit = limit; read = refl }

  pub settled_there : (new : Held TreeStore) (records : List Record) → HaveRead old new profile records → Settled (state over_trees new) (Holds (kept old))
  settled_there new records so_far = settled_unchanged (state over_trees old) (state over_trees new) (Holds (kept old)) has so_far.same

  -- also at the next row
  pub settled_on : (mid new : Held TreeStore) (records : List Record) → HaveRead old mid profile records → IsUnchanged (state over_trees mid) (state over_trees new) → Settled (state over_trees new) (Holds (kept old))
  settled_on mid new records so_far same = settled_unchanged (state over_trees mid) (state over_trees new) (Holds (kept old)) (settled_there mid records so_far) same

  pub gave_up : (new : Held TreeStore) (e : Error) → old.step_limit ≡ None → FailsToQuery LIST_RECORDS.now (number profile ∷ []) (state over_trees old) (state over_trees new) e
      → Settled (state over_trees new) (Holds (kept old)) × IsOutOfMemory e
  gave_up new e none fails = (
    query_failed LIST_RECORDS.now (number profile ∷ []) (state over_trees old) (state over_trees new) e (Holds (kept old)) refl plain has fails,
    records_runs_out (state over_trees old) (state over_trees new) profile (kept old) e (in_memory old new none) has.holds fails,
  )

  module _ (apart : AreApart (kept old)) where
    -- the rows that were given so far are the first of those that are listed
    front : (new : Held TreeStore) (given : List Row) → HasGiven over_trees LIST_RECORDS.now (number profile ∷ []) new given → IsUnchanged (state over_trees old) (state over_trees new)
        → (tail : List Row) × (given ++ tail ≡ map shown_node listed_nodes)
    front new given gives same =
        let now = state over_trees new in
        let params = number profile ∷ [] in
        let there = settled_unchanged (state over_trees old) now (Holds (kept old)) has same in
        let begins = given_begin over_trees LIST_RECORDS.now params new given gives in
        -- it has no recursion
        let all = begins_shown LIST_RECORDS.now params now now given begins (still now refl) (λ c db it source. subst (λ k. EndsIn k db (timed params c.formats it.now)) (sym (ap command_of (sym it.is ∙ ap (λ s. understood s LIST_RECORDS.now) there.holds.schema) ∙ records_is.0)) tt) in
        (all.0, (lists_records now now profile (kept old) (given ++ all.0) there apart all.1).1)

    module _ (mid new : Held TreeStore) (before : List Record) (so_far : HaveRead old mid profile before) where
      -- one row more was read
      pub read_on : (row : Row) (read : Record) → Advances over_trees mid new (Some row) → IsUnchanged (state over_trees mid) (state over_trees new) → new.step_limit ≡ mid.step_limit
          → ((n : Node) → AllByRecursion IsWord n.puids → row ≡ shown_node n → read ≡ record_of n) → HaveRead old new profile (before ++ read ∷ [])
      read_on row read moved same limit reads =
          let gives = moved LIST_RECORDS.now (number profile ∷ []) so_far.given so_far.gives in
          let unchanged = unchanged_then (state over_trees old) (state over_trees mid) (state over_trees new) so_far.same same in
          let first = front new (so_far.given ++ row ∷ []) gives unchanged in
          let words = all_filter (λ (n : Node). AllByRecursion IsWord n.puids) (is_listed profile) (kept old).nodes has.holds.words in
          record {
            given = so_far.given ++ row ∷ [];
            gives = gives;
            same = unchanged;
            limit = limit ∙ so_far.limit;
            read = ap (λ (rs : List Record). rs ++ read ∷ []) so_far.read ∙ one_more shown_node record_of (λ (n : Node). AllByRecursion IsWord n.puids) listed_nodes so_far.given row first.0 read words first.1 reads;
          }

      -- a row that was given can be read
      pub given_fits : (row : Row) (Q : Type 0) → AreReadable (kept old) → Advances over_trees mid new (Some row) → IsUnchanged (state over_trees mid) (state over_trees new)
          → ((n : Node) → row ≡ shown_node n → NodeFits n → Q) → Q
      given_fits row Q readable moved same reported =
          let gives = moved LIST_RECORDS.now (number profile ∷ []) so_far.given so_far.gives in
          let unchanged = unchanged_then (state over_trees old) (state over_trees mid) (state over_trees new) so_far.same same in
          let first = front new (so_far.given ++ row ∷ []) gives unchanged in
          shows_one shown_node record_of NodeFits listed_nodes so_far.given row first.0 Q (all_readable (is_listed profile) (kept old) readable) first.1 reported

      -- no row is left
      pub read_all : Advances over_trees mid new None → Settled (state over_trees new) (Holds (kept old)) × (before ≡ records_of profile (kept old))
      read_all moved =
          let there = settled_there mid before so_far in
          let shown = moved LIST_RECORDS.now (number profile ∷ []) so_far.given so_far.gives in
          let all = lists_records (state over_trees mid) (state over_trees new) profile (kept old) so_far.given there apart shown in
          (all.0, so_far.read ∙ ap (λ (rows : List Row). map record_of (take (length rows) listed_nodes)) all.1 ∙ made_of_all shown_node record_of NodeFits listed_nodes)

      -- the next row wasn't given
      pub read_no_more : (e : Error) → mid.step_limit ≡ None → FailsToAdvance over_trees mid new e → Settled (state over_trees new) (Holds (kept old)) × IsOutOfMemory e
      read_no_more e none fails =
          let there = settled_there mid before so_far in
          let failed = fails LIST_RECORDS.now (number profile ∷ []) so_far.given so_far.gives in
          let bare = subst (λ s. IsPlain (understood s LIST_RECORDS.now)) (sym there.holds.schema) records_plain in (
            query_failed LIST_RECORDS.now (number profile ∷ []) (state over_trees mid) (state over_trees new) e (Holds (kept old)) refl bare there failed,
            records_runs_out (state over_trees mid) (state over_trees new) profile (kept old) e (in_memory mid new none) there.holds failed,
          )
