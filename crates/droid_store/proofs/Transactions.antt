-- Any statements in one transaction, and what a call that fails leaves.
use Rattle.std.proofs.Common.{◌≡◌, inl, inr, ℕ, List, [], false, true, Ok, Err, Result, OnOk, OnErr, IfErr, IsTrue, refl, sym, subst, ◌∙◌}
use Rattle.sqlite.specs.Order.{Row}
use Rattle.sqlite.specs.declared.error.Error.{Error}
use Rattle.sqlite.specs.Effect.{Database}
use Rattle.sqlite.specs.Listing.{understood}
use Rattle.sqlite.specs.State.{State, KeepsCounts, Shows, IsUnchanged, IsRolledBack, IsNotRun, FailsToQuery, Shown, Executes, ExecutesInside}
use Rattle.sqlite.specs.Steps.{FailsToCommit}
use Rattle.sqlite.proofs.Callers.{IsPlain}
use Rattle.droid_store.specs.Transactions.{Settled, Within}

-- ---- a call that changes nothing, or rolls back

pub settled_unchanged : (old new : State) (P : Database → Type 0) → Settled old P → IsUnchanged old new → Settled new P
settled_unchanged old new P has same = record {
  holds = subst P (sym same.0.now_is) has.holds;
  autocommit = same.0.mode ∙ has.autocommit;
  settled = same.0.now_is ∙ has.settled ∙ sym same.0.committed_is;
}

pub rolled_back : (old new : State) (Q : Database → Type 0) → IsTrue new.is_open → Q old.committed → IsRolledBack old new → Settled new Q
rolled_back old new Q live has back =
    let both = back.undone live in
    record { holds = subst Q (sym both.0) has; autocommit = back.autocommit; settled = both.0 ∙ sym both.1 }

pub settled_rolled_back : (old new : State) (P : Database → Type 0) → IsTrue new.is_open → Settled old P → IsRolledBack old new → Settled new P
settled_rolled_back old new P live has back = rolled_back old new P live (subst P has.settled has.holds) back

pub shown_unchanged : (sql : List ℕ) (params : Row) (old new : State) (rows : List Row) → IsPlain (understood old.now.schema sql) → Shown sql params old new rows → IsUnchanged old new
unfolding Shown
shown_unchanged sql params old new rows plain h =
    let bare = (subst IsPlain h.1.is plain).0 in
    let it = rw bare at h.2 in
    it.3

-- a look-up that fails leaves what was there
pub query_failed : (sql : List ℕ) (params : Row) (old new : State) (e : Error) (P : Database → Type 0) → IsTrue new.is_open → IsPlain (understood old.now.schema sql) → Settled old P
    → FailsToQuery sql params old new e → Settled new P
unfolding FailsToQuery IsNotRun
query_failed sql params old new e P live plain has (inl (inl none)) = settled_unchanged old new P has none.1
query_failed sql params old new e P live plain has (inl (inr fails)) = settled_rolled_back old new P live has fails.3
query_failed sql params old new e P live plain has (inr shown) =
    let bare = (subst IsPlain shown.1.is plain).0 in
    let it = rw bare at shown.2 in
    settled_unchanged old new P has it.3

-- ---- statements in a transaction

pub begins : (s : State) (P : Database → Type 0) → Settled s P → Within (record s { in_transaction = true }) P P
begins s P has = record { seen = has.holds; saved = subst P has.settled has.holds; within = refl }

pub steps : (sql : List ℕ) (params : Row) (old new : State) (count : ℕ) (P Q R : Database → Type 0) → Within old P Q → ExecutesInside 0 sql params old new (Ok count)
    → (P old.now → Executes sql params old new (Ok count) → R new.now) → Within new R Q
steps sql params old new count P Q R has h effect = record { seen = effect has.seen h.0; saved = subst Q (sym h.1.committed_is) has.saved; within = h.1.mode }

-- a statement inside a transaction that fails leaves what a rollback goes back to
pub committed_kept : (sql : List ℕ) (params : Row) (old new : State) (r : Result ℕ Error) → IsTrue new.is_open → ExecutesInside 0 sql params old new r → new.committed ≡ old.committed
committed_kept sql params old new (Ok count) live h = h.1.committed_is
committed_kept sql params old new (Err e) live (inl (ran, inl same)) = same.0.committed_is
committed_kept sql params old new (Err e) live (inl (ran, inr back)) = (back.undone live).1
committed_kept sql params old new (Err e) live (inr ends) = ends.2.0.committed_is

-- a statement that fails, and the drop of the transaction
pub gives_up : (sql : List ℕ) (params : Row) (old mid new : State) (r : Result ℕ Error) (P Q : Database → Type 0) → IsTrue mid.is_open → IsTrue new.is_open → Within old P Q
    → ExecutesInside 0 sql params old mid r → IsRolledBack mid new → Settled new Q
gives_up sql params old mid new r P Q between after has h back = rolled_back mid new Q after (subst Q (sym (committed_kept sql params old mid r between h)) has.saved) back

-- a transaction that is dropped
pub dropped : (old new : State) (P Q : Database → Type 0) → IsTrue new.is_open → Within old P Q → IsRolledBack old new → Settled new Q
dropped old new P Q live has back = rolled_back old new Q live has.saved back

-- ---- the commit

pub ends_ok : {U : Type 0} (old new : State) (r : Result U Error) (P Q : Database → Type 0) → Within old P Q
    → OnOk r (IsTrue old.in_transaction × Shows old new old.now old.now false × KeepsCounts old new × (new.marks ≡ [])) → OnOk r (Settled new P)
ends_ok old new (Ok done) P Q has h = record { holds = subst P (sym h.1.now_is) has.seen; autocommit = h.1.mode; settled = h.1.now_is ∙ sym h.1.committed_is }
ends_ok old new (Err e) P Q has h = tt

pub ends_err : {U : Type 0} (old new : State) (r : Result U Error) (P Q : Database → Type 0) → IsTrue new.is_open → Within old P Q → IfErr r (FailsToCommit old new) → OnErr r (Settled new Q)
ends_err old new (Ok done) P Q after has h = tt
ends_err old new (Err e) P Q after has (inl fails) = rolled_back old new Q after has.saved fails.3
ends_err old new (Err e) P Q after has (inr ended) = absurd (let no = sym has.within ∙ ended.1 in cc)

pub on_err : {U E : Type 0} (r : Result U E) (P : Type 0) → P → OnErr r P
on_err (Ok done) P p = tt
on_err (Err e) P p = p
