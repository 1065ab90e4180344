-- What the statements on nodes make of the typed rows.
use Rattle.std.proofs.Common.{◌≡◌, ℕ, ℤ, zero, suc, ◌+◌, ◌<◌, ◌≤◌, ◌==◌, ◌&&◌, pos, List, [], ◌∷◌, ◌++◌, length, map, filter, Bool, true, false, inl, inr, Ok, refl, ap, ◌∙◌, arith}
use Rattle.std.proofs.lemmas.Bool.{cases_Bool, eqb-true}
use Rattle.std.proofs.lemmas.Bool.Decides.{nat_tests}
use Rattle.std.specs.List.{AllByRecursion}
use Rattle.sqlite.specs.declared.types.Value.TheVariants.{Null, Int, Text, Blob}
use Rattle.sqlite.specs.Order.{Row}
use Rattle.sqlite.specs.State.{State, Executes}
use Rattle.droid_store.specs.KeyedRows.{numbered_from, next_key, AreRising, changed_where}
use Rattle.droid_store.proofs.Changes.{updates}
use Rattle.droid_store.proofs.Comparisons.{equal_numbers}
use Rattle.droid_store.proofs.Inserts.{inserts}
use Rattle.droid_store.proofs.RowEdits.{added_next, written}
use Rattle.droid_store.proofs.RowOrder.{below_next}
use Rattle.droid_store.proofs.Rising.{rising_last, rising_numbered}
use Rattle.droid_store.proofs.Selects.{selects}
use Rattle.droid_store.proofs.Values.{cast_null, cast_int}
use Rattle.droid_frame.specs.Hashes.{hash_kind_number}
use Rattle.droid_store.specs.declared.rows.NodeState.{NodeState}
use Rattle.droid_store.specs.declared.rows.ProfileRow.{ProfileRow}
use Rattle.droid_store.specs.declared.statements.TheConstants.{ADD_NODE, COUNT_NODES}
use Rattle.droid_store.specs.Changes.{IsWord, new_node, counted}
use Rattle.droid_frame.specs.Fields.{method_number}
use Rattle.droid_store.specs.Encoded.{number, flag, state_number, joined, profile_row}
use Rattle.droid_store.specs.Kept.{Holds}
use Rattle.droid_store.specs.Rows.{Node, Rows}
use Rattle.droid_store.specs.Tables.{profiles, nodes, store_schema}
use Rattle.droid_store.proofs.Effects.{profile_tail}
use Rattle.droid_store.proofs.Meanings.{add_node_is, add_node_plain, node_terms, count_is, count_plain, count_query, by_id, count_columns}

-- ---- lists

pub map_last : {X Y : Type 0} (f : X → Y) (xs : List X) (x : X) → map f (xs ++ x ∷ []) ≡ map f xs ++ f x ∷ []
map_last f [] x = refl
map_last f (y ∷ ys) x = ap (λ zs. f y ∷ zs) (map_last f ys x)

pub all_last : {X : Type 0} (P : X → Type 0) (xs : List X) (x : X) → AllByRecursion P xs → P x → AllByRecursion P (xs ++ x ∷ [])
all_last P [] x all has = (has, tt)
all_last P (y ∷ ys) x all has = (all.0, all_last P ys x all.1 has)

pub and-true : (a : Bool) → (a && true) ≡ a
and-true true = refl
and-true false = refl

module _ {X : Type 0} (key : X → ℕ) where
  none_above : (n k : ℕ) (xs : List X) → n ≤ k → AllByRecursion (λ x. k < key x) xs → filter (λ x. key x == n) xs ≡ []
  none_above n k [] low above = refl
  none_above n k (x ∷ xs) low above =
      let isnt : (key x == n) ≡ false = (let less = above.0 in grind (arith, nat_tests)) in
      rw isnt (none_above n k xs low above.1)

  -- of rows whose numbers rise at most one has this number
  pub few_rising : (n : ℕ) (xs : List X) → AreRising key xs → length (filter (λ x. key x == n) xs) ≤ 1
  few_rising n [] rise = omega arith
  few_rising n (x ∷ xs) rise = elim (cases_Bool (key x == n)) [
    | inl is ↦ let same : key x ≡ n = eqb-true (key x) n is in rw (is, none_above n (key x) xs (omega arith) rise.0) (omega arith)
    | inr isnt ↦ rw isnt (few_rising n xs rise.1)
  ]

-- ---- a node is added

abbrev pub with_last_node : Node → Rows → Rows
with_last_node n rows = record rows { nodes = rows.nodes ++ n ∷ [] }

abbrev pub node_tail : ℕ × Node → Row
node_tail n =
    number n.1.profile
    ∷ number n.1.id
    ∷ number n.1.parent
    ∷ Int n.1.modified
    ∷ number (state_number n.1.state)
    ∷ number n.1.size
    ∷ number n.1.piece_size
    ∷ number (method_number n.1.method)
    ∷ flag n.1.mismatch
    ∷ Text n.1.name
    ∷ Text n.1.path
    ∷ Text (joined n.1.puids)
    ∷ Blob n.1.hash
    ∷ []

pub adds_node : (old new : State) (profile id parent : ℕ) (modified : ℤ) (state : NodeState) (size piece_size : ℕ) (name path : List ℕ) (rows : Rows) (count : ℕ) → Holds rows old.now
    → Executes ADD_NODE.now (number profile ∷ number id ∷ number parent ∷ Int modified ∷ number (state_number state) ∷ number size ∷ number piece_size ∷ Text name ∷ Text path ∷ []) old new (Ok count)
    → Holds (with_last_node (new_node profile id parent modified state size piece_size name path) rows) new.now
adds_node old new profile id parent modified state size piece_size name path rows count has h =
    let params = number profile ∷ number id ∷ number parent ∷ Int modified ∷ number (state_number state) ∷ number size ∷ number piece_size ∷ Text name ∷ Text path ∷ [] in
    let table = record nodes { tree = 1 } in
    let it = inserts store_schema 1 table refl (λ db edit none. refl) ADD_NODE.now params old new node_terms 14 count has.schema add_node_is add_node_plain h in
    let n = new_node profile id parent modified state size piece_size name path in
    let x : ℕ × Node = (next_key (λ n. n.0) has.nodes, n) in
    let values =
    Null ∷ number profile ∷ number id ∷ number parent ∷ Int modified ∷ number (state_number state) ∷ number size ∷ number piece_size ∷ number 0 ∷ number 0 ∷ Text name ∷ Text path ∷ Text [] ∷ Blob [] ∷ [] in
    let added = added_next (λ n. n.0) node_tail old.now.trees table has.nodes has.node_rows params node_terms 14 values x refl
    (rw (cast_null, cast_int (pos profile), cast_int (pos id), cast_int (pos parent), cast_int modified, cast_int (pos (state_number state)), cast_int (pos size), cast_int (pos piece_size), cast_int (pos 0)) refl) has.rising refl in
    record {
      schema = it.0;
      profiles = it.1.tables.0 (omega arith) ∙ has.profiles;
      nodes = has.nodes ++ x ∷ [];
      nodes_are = map_last (λ n. n.1) has.nodes x ∙ ap (λ ns. ns ++ n ∷ []) has.nodes_are;
      rising = rising_last (λ n. n.0) has.nodes x has.rising (below_next (λ n. n.0) node_tail has.nodes has.rising);
      node_rows = it.1.rows ∙ added;
      replies = it.1.tables.1.1.0 (omega arith) ∙ has.replies;
      words = all_last (λ (n : Node). AllByRecursion IsWord n.puids) rows.nodes n has.words tt;
    }

-- ---- its profile counts it

abbrev pub with_counted : ℕ → ℕ → Rows → Rows
with_counted profile count rows = record rows { profiles = counted profile count rows.profiles }

abbrev pub counting : ℕ → ℕ × ProfileRow → ℕ × ProfileRow
counting count p = (p.0, record p.1 { nodes = count })

abbrev pub has_number : ℕ → ℕ × ProfileRow → Bool
has_number n p = p.0 == n

none_counted : (n before count : ℕ) (ps : List ProfileRow) → n ≤ before → map (changed_where (has_number n) (counting count)) (numbered_from (suc before) ps) ≡ numbered_from (suc before) ps
none_counted n before count [] low = refl
none_counted n before count (p ∷ ps) low =
    let isnt : (suc before == n) ≡ false = grind (arith, nat_tests) in
    rw isnt (ap (λ qs. (suc before, p) ∷ qs) (none_counted n (suc before) count ps (omega arith)))

numbered_counted : (before profile count n : ℕ) (ps : List ProfileRow) → n ≡ before + profile
    → map (changed_where (has_number n) (counting count)) (numbered_from (suc before) ps) ≡ numbered_from (suc before) (counted profile count ps)
numbered_counted before profile count n [] is = refl
numbered_counted before zero count n (p ∷ ps) is = none_counted n before count (p ∷ ps) (omega arith)
numbered_counted before (suc zero) count n (p ∷ ps) is =
    let same : (suc before == n) ≡ true = grind (arith, nat_tests) in
    rw same (ap (λ qs. (suc before, record p { nodes = count }) ∷ qs) (none_counted n (suc before) count ps (omega arith)))
numbered_counted before (suc (suc profile)) count n (p ∷ ps) is =
    let isnt : (suc before == n) ≡ false = grind (arith, nat_tests) in
    rw isnt (ap (λ qs. (suc before, p) ∷ qs) (numbered_counted (suc before) (suc profile) count n ps (omega arith)))

pub counts_nodes : (old new : State) (profile count : ℕ) (rows : Rows) (done : ℕ) → Holds rows old.now → Executes COUNT_NODES.now (number profile ∷ number count ∷ []) old new (Ok done)
    → Holds (with_counted profile count rows) new.now
counts_nodes old new profile count rows done has h =
    let params = number profile ∷ number count ∷ [] in
    let xs = numbered_from 1 rows.profiles in
    let it = updates store_schema 0 profiles refl (λ db edit. refl) COUNT_NODES.now params old new (record { lets = []; body = count_query }) done has.schema count_is count_plain h in
    let few = few_rising (λ p. p.0) profile xs (rising_numbered 1 rows.profiles) in
    let found = selects profile_row (has_number profile) (λ p. number p.0 ∷ profile_row (counting count p)) 0 by_id count_columns [] params (λ p. rw (equal_numbers p.0 profile) (and-true _)) (λ p. refl)
    old.now.trees xs it.rows has.profiles few it.found.answer in
    let wrote = written (λ p. p.0) profile_tail old.now.trees profiles xs has.profiles (has_number profile) (rising_numbered 1 rows.profiles) few (counting count) (λ p. refl)
    (λ p. rw (cast_int (pos p.0), cast_null, cast_int (pos p.1.scan_limit), cast_int _, cast_int (pos p.1.nodes), cast_int (pos (hash_kind_number p.1.hash))) refl) it.rows found in
    record {
      schema = it.schema_is;
      profiles = it.applies.rows ∙ wrote ∙ ap (map profile_row) (numbered_counted 0 profile count profile rows.profiles (omega arith));
      nodes = has.nodes;
      nodes_are = has.nodes_are;
      rising = has.rising;
      node_rows = it.applies.tables.1.0 (omega arith) ∙ has.node_rows;
      replies = it.applies.tables.1.1.0 (omega arith) ∙ has.replies;
      words = has.words;
    }
