-- The cached rows stay the history's, whatever is looked up or cached.
use Rattle.std.proofs.Common.{◌≡◌, ℕ, Bool, true, nat_eq, ◌⊎◌, IsTrue, IsSome, is_some, inl, inr, List, [], Contains, IfSome, Option, Some, None, option_map, refl, sym, ap, subst, arith}
use Rattle.std.specs.Prelude.{Result, Ok, Err, OnOk, OnErr}
use Rattle.std.specs.Map.{lookup}
use Rattle.std.proofs.lemmas.Bool.{and_parts, eqb-true}
use Rattle.lru.specs.LruCache.{LruCache, lru_cache, promoted, put_entries}
use Rattle.lru.proofs.CallerLemmas.{Contains-promoted, Contains-lookup, Contains-put_entries, IsPut}
use Rattle.droid_core_spec.specs.Histories.{Entry, History, kept}
use Rattle.droid_core.specs.Replies.{entry_row}
use Rattle.droid_core.specs.Recent.{Whose, is_same, IsKeptRow, AreKept, is_cached_in}
use Rattle.droid_store.specs.declared.rows.Entry as rows

abbrev pub Cache : Type 0
Cache = LruCache Whose rows.Entry

same_parts : (one other : Whose) → is_same one other ≡ true → (one.0 ≡ other.0) × (one.1 ≡ other.1)
same_parts one other same =
    let parts = and_parts (nat_eq one.0 other.0) (nat_eq one.1 other.1) same in
    (eqb-true one.0 other.0 parts.0, eqb-true one.1 other.1 parts.1)

under_same : (history : History) (one other : Whose) (row : rows.Entry) → one.0 ≡ other.0 → one.1 ≡ other.1 → IsKeptRow history other row → IsKeptRow history one row
under_same history one other row client number is =
    subst (λ (c : ℕ). IsKeptRow history (c, one.1) row) (sym client) (subst (λ (n : ℕ). IsKeptRow history (other.0, n) row) (sym number) is)

-- what is found is the history's
pub found_kept : (history : History) (pairs : List (Whose × rows.Entry)) (whose : Whose) (row : rows.Entry) → AreKept history pairs → lookup (is_same whose) pairs ≡ Some row → IsKeptRow history whose row
found_kept history pairs whose row all found =
    let there = Contains-lookup (is_same whose) pairs row found in
    let same = same_parts whose there.0 there.2 in
    under_same history whose there.0 row same.0 same.1 (all (there.0, row) there.1)

-- and so is its copy
pub copied_kept : (history : History) (whose : Whose) (row : rows.Entry) (copy : Option rows.Entry) → IfSome copy (λ (c : rows.Entry). c ≡ row) → IsKeptRow history whose row → IfSome copy (λ (c : rows.Entry). IsKeptRow history whose c)
copied_kept history whose row None is kept = tt
copied_kept history whose row (Some copy) is kept = subst (λ (r : rows.Entry). IsKeptRow history whose r) (sym is) kept

-- in another order they are the history's too
pub promoted_kept : (history : History) (test : Whose → Bool) (old new : Cache) → new ≡ lru_cache (promoted test old.entries) old.cap → AreKept history old.entries → AreKept history new.entries
promoted_kept history test old new is all = subst (λ (cache : Cache). AreKept history cache.entries) (sym is) (λ pair there. all pair (Contains-promoted test old.entries pair there))

put_under : (old : Cache) (whose : Whose) (pair : Whose × rows.Entry) → (pair.0 ≡ whose) ⊎ ((w : rows.Entry) × Contains old.entries (pair.0, w) × (is_same whose pair.0 ≡ true)) → (pair.0.0 ≡ whose.0) × (pair.0.1 ≡ whose.1)
put_under old whose pair (inl is) = (ap (λ (p : Whose). p.0) is, ap (λ (p : Whose). p.1) is)
put_under old whose pair (inr was) = let same = same_parts whose pair.0 was.2 in (sym same.0, sym same.1)

put_either : (history : History) (old : Cache) (whose : Whose) (row : rows.Entry) (pair : Whose × rows.Entry) → AreKept history old.entries → IsKeptRow history whose row
    → Contains old.entries pair ⊎ IsPut is_same old whose row pair → IsKeptRow history pair.0 pair.1
put_either history old whose row pair all its (inl was) = all pair was
put_either history old whose row pair all its (inr put) =
    let under = put_under old whose pair put.1 in
    subst (λ (r : rows.Entry). IsKeptRow history pair.0 r) (sym put.0) (under_same history pair.0 whose row under.0 under.1 its)

-- with one more that is the history's, or with none more
pub put_kept : {X Y : Type 0} (history : History) (result : Result X Y) (old new : Cache) (whose : Whose) (row : rows.Entry)
    → OnOk result (new ≡ lru_cache (put_entries is_same old whose row) old.cap) → OnErr result (new ≡ old) → AreKept history old.entries → IsKeptRow history whose row → AreKept history new.entries
put_kept history (Ok x) old new whose row goes stays all its =
    subst (λ (cache : Cache). AreKept history cache.entries) (sym goes) (λ pair there. put_either history old whose row pair all its (Contains-put_entries is_same old whose row pair there))
put_kept history (Err y) old new whose row goes stays all its = subst (λ (cache : Cache). AreKept history cache.entries) (sym stays) all

-- where there is none, each is any history's
pub none_kept_yet : (history : History) (pairs : List (Whose × rows.Entry)) → pairs ≡ [] → AreKept history pairs
none_kept_yet history pairs none = subst (AreKept history) (sym none) (λ pair there. absurd (let within = there.1 in omega arith))

-- the size of the cache stays, whether the row is cached or not
pub put_room : {X Y : Type 0} (result : Result X Y) (old new : Cache) (whose : Whose) (row : rows.Entry)
    → OnOk result (new ≡ lru_cache (put_entries is_same old whose row) old.cap) → OnErr result (new ≡ old) → new.cap ≡ old.cap
put_room (Ok x) old new whose row goes stays = ap (λ (cache : Cache). cache.cap) goes
put_room (Err y) old new whose row goes stays = ap (λ (cache : Cache). cache.cap) stays

-- what is cached is kept
kept_where_row : (o : Option Entry) (row : rows.Entry) → option_map entry_row o ≡ Some row → IsSome o
kept_where_row None row e = absurd cc
kept_where_row (Some entry) row e = refl

cached_kept_in : (history : History) (pairs : List (Whose × rows.Entry)) (whose : Whose) (o : Option rows.Entry) → AreKept history pairs → lookup (is_same whose) pairs ≡ o → IsTrue (is_some o) → IsSome (kept history whose.0 whose.1)
cached_kept_in history pairs whose None all found is = absurd cc
cached_kept_in history pairs whose (Some row) all found is = kept_where_row (kept history whose.0 whose.1) row (found_kept history pairs whose row all found)

pub cached_kept : (history : History) (pairs : List (Whose × rows.Entry)) (client number : ℕ) → AreKept history pairs → IsTrue (is_cached_in pairs client number) → IsSome (kept history client number)
cached_kept history pairs client number all is = cached_kept_in history pairs (client, number) (lookup (is_same (client, number)) pairs) all refl is
