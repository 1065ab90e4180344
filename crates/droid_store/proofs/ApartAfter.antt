-- No two rows come under one key, also after each change.
use Rattle.std.proofs.Common.{◌≡◌, inl, inr, ℕ, ◌<◌, ◌≤◌, ◌==◌, ◌&&◌, List, [], ◌∷◌, ◌++◌, map, find, filter, Bool, true, not, None, bytes_eq, refl, sym, ap, subst, ◌∙◌, arith, zero, suc, ◌+◌, Some, Option, option_map, unwrap_or}
use Rattle.std.proofs.lemmas.Bool.{cases_Bool, and_parts, eqb-true}
use Rattle.std.proofs.lemmas.Slice.Eq.{bytes_eq-Decides}
use Rattle.std.specs.List.{AllByRecursion}
use Rattle.droid_frame.specs.declared.hash_kind.HashKind.{HashKind}
use Rattle.droid_frame.specs.declared.hash_value.HashValue.{HashValue}
use Rattle.droid_frame.specs.declared.method.Method.{Method}
use Rattle.droid_store.specs.KeyedRows.{changed_where}
use Rattle.droid_store.proofs.AtMostOne.{one_after_none, fewer, as_many}
use Rattle.droid_store.specs.declared.rows.Entry.{Entry}
use Rattle.droid_store.specs.declared.rows.ProfileRow.{ProfileRow}
use Rattle.droid_store.specs.Changes.{with_reply, with_profile, with_node, counted, finished, with_finished, without_node, IsNext}
use Rattle.droid_store.specs.Kept.{AreInOrder, AreApart, accepted_in}
use Rattle.droid_store.specs.Rows.{Node, Rows, is_node, is_child, is_for, child_at, reply_for, profile_at}

-- ---- what profiles count

-- where no profile counts less, no node is above what its profile counts
still_accepted : (before after : Rows) (ns : List Node) → ((m : ℕ) → accepted_in m before ≤ accepted_in m after) → AllByRecursion (λ (n : Node). n.id ≤ accepted_in n.profile before) ns
    → AllByRecursion (λ (n : Node). n.id ≤ accepted_in n.profile after) ns
still_accepted before after [] more all = tt
still_accepted before after (n ∷ ns) more all = (let room = more n.profile in let here = all.0 in omega arith, still_accepted before after ns more all.1)

as_before : (before after : Rows) → after.profiles ≡ before.profiles → (m : ℕ) → accepted_in m before ≤ accepted_in m after
as_before before after same zero = omega arith
as_before before after same (suc m) = rw same (omega arith)

abbrev rows_of : List ProfileRow → List Node → List Entry → Rows
rows_of ps ns es = record { profiles = ps; nodes = ns; replies = es }

more_profiles : (m : ℕ) (ps : List ProfileRow) (p : ProfileRow) (ns : List Node) (es : List Entry) → accepted_in m (rows_of ps ns es) ≤ accepted_in m (rows_of (ps ++ p ∷ []) ns es)
more_profiles zero ps p ns es = omega arith
more_profiles (suc m) [] p ns es = omega arith
more_profiles (suc zero) (q ∷ qs) p ns es = omega arith
more_profiles (suc (suc m)) (q ∷ qs) p ns es = more_profiles (suc m) qs p ns es

-- a profile counts this much now, which is no less than before
more_counted : (profile id m : ℕ) (ps : List ProfileRow) (ns ms : List Node) (es : List Entry) → accepted_in profile (rows_of ps ns es) ≤ id
    → accepted_in m (rows_of ps ns es) ≤ accepted_in m (rows_of (counted profile id ps) ms es)
more_counted profile id zero ps ns ms es less = omega arith
more_counted profile id (suc m) [] ns ms es less = omega arith
more_counted zero id (suc m) (p ∷ ps) ns ms es less = omega arith
more_counted (suc zero) id (suc zero) (p ∷ ps) ns ms es less = less
more_counted (suc zero) id (suc (suc m)) (p ∷ ps) ns ms es less = omega arith
more_counted (suc (suc profile)) id (suc zero) (p ∷ ps) ns ms es less = omega arith
more_counted (suc (suc profile)) id (suc (suc m)) (p ∷ ps) ns ms es less = more_counted (suc profile) id (suc m) ps ns ms es less

now_counted : (profile id : ℕ) (ps : List ProfileRow) (ns ms : List Node) (es : List Entry) → IsNext profile id (rows_of ps ns es) → accepted_in profile (rows_of (counted profile id ps) ms es) ≡ id
now_counted zero id ps ns ms es next = absurd cc
now_counted (suc profile) id [] ns ms es next = absurd cc
now_counted (suc zero) id (p ∷ ps) ns ms es next = refl
now_counted (suc (suc profile)) id (p ∷ ps) ns ms es next = now_counted (suc profile) id ps ns ms es next

one_more : (o : Option ProfileRow) (id : ℕ) → option_map (λ p. p.nodes + 1) o ≡ Some id → unwrap_or (option_map (λ p. p.nodes) o) 0 + 1 ≡ id
one_more None id next = absurd cc
one_more (Some p) id next = cc

-- the next number is above those of the profile's nodes
above_all : (profile id : ℕ) (rows : Rows) (ns : List Node) → accepted_in profile rows + 1 ≡ id → AllByRecursion (λ (n : Node). n.id ≤ accepted_in n.profile rows) ns → AllByRecursion (λ (n : Node). n.profile ≡ profile → n.id < id) ns
above_all profile id rows [] next all = tt
above_all profile id rows (n ∷ ns) next all = (λ at. let here = subst (λ m. n.id ≤ accepted_in m rows) at all.0 in omega arith, above_all profile id rows ns next all.1)

all_last : {X : Type 0} (P : X → Type 0) (xs : List X) (x : X) → AllByRecursion P xs → P x → AllByRecursion P (xs ++ x ∷ [])
all_last P [] x all has = (has, tt)
all_last P (y ∷ ys) x all has = (all.0, all_last P ys x all.1 has)

-- ---- one row more

pub apart_with_profile : (scan_limit : ℕ) (match_all : Bool) (hash : HashKind) (rows : Rows) → AreApart rows → AreApart (with_profile scan_limit match_all hash rows)
apart_with_profile scan_limit match_all hash rows apart = record {
  replies = apart.replies;
  children = apart.children;
  numbers = apart.numbers;
  accepted = still_accepted rows (with_profile scan_limit match_all hash rows) rows.nodes (λ m. more_profiles m rows.profiles _ rows.nodes rows.replies) apart.accepted;
}

pub apart_with_reply : (e : Entry) (rows : Rows) → reply_for e.client e.number rows ≡ None → AreApart rows → AreApart (with_reply e rows)
apart_with_reply e rows none apart = record {
  replies = λ client number. one_after_none (is_for client number) rows.replies e (λ is.
      let both = and_parts (e.client == client) (e.number == number) is in
      subst (λ c. find (is_for c number) rows.replies ≡ None) (eqb-true e.client client both.0) (subst (λ n. find (is_for e.client n) rows.replies ≡ None) (eqb-true e.number number both.1) none)) (apart.replies client number);
  children = apart.children;
  numbers = apart.numbers;
  accepted = still_accepted rows (with_reply e rows) rows.nodes (as_before rows (with_reply e rows) refl) apart.accepted;
}

last_in_order : (n : Node) (ns : List Node) → AllByRecursion (λ m. m.profile ≡ n.profile → m.id < n.id) ns → AreInOrder ns → AreInOrder (ns ++ n ∷ [])
last_in_order n [] below rise = (tt, tt)
last_in_order n (m ∷ ms) below rise = (above_last m ms (λ at. below.0 (sym at)) rise.0, last_in_order n ms below.1 rise.1)
  where
    above_last : (low : Node) (xs : List Node) → (n.profile ≡ low.profile → low.id < n.id) → AllByRecursion (λ x. x.profile ≡ low.profile → low.id < x.id) xs → AllByRecursion (λ x. x.profile ≡ low.profile → low.id < x.id) (xs ++ n ∷ [])
    above_last low [] less above = (less, tt)
    above_last low (x ∷ xs) less above = (above.0, above_last low xs less above.1)

child_key : (profile parent : ℕ) (name : List ℕ) (n : Node) (rows : Rows) → is_child profile parent name n ≡ true → child_at n.profile n.parent n.name rows ≡ None → child_at profile parent name rows ≡ None
child_key profile parent name n rows is none =
    let first = and_parts (n.profile == profile) ((n.parent == parent) && bytes_eq n.name name) is in
    let rest = and_parts (n.parent == parent) (bytes_eq n.name name) first.1 in
    subst (λ p. child_at p parent name rows ≡ None) (eqb-true n.profile profile first.0)
    (subst (λ q. child_at n.profile q name rows ≡ None) (eqb-true n.parent parent rest.0) (subst (λ t. child_at n.profile n.parent t rows ≡ None) ((bytes_eq-Decides n.name name).0 rest.1) none))

pub apart_with_node : (n : Node) (rows : Rows) → IsNext n.profile n.id rows → child_at n.profile n.parent n.name rows ≡ None → AreApart rows → AreApart (with_node n rows)
apart_with_node n rows next free apart =
    let one = one_more (profile_at n.profile rows) n.id next in
    let here : accepted_in n.profile (with_node n rows) ≡ n.id = now_counted n.profile n.id rows.profiles rows.nodes (rows.nodes ++ n ∷ []) rows.replies next in
    record {
      replies = apart.replies;
      children = λ profile parent name. one_after_none (is_child profile parent name) rows.nodes n (λ is. child_key profile parent name n rows is free) (apart.children profile parent name);
      numbers = last_in_order n rows.nodes (above_all n.profile n.id rows rows.nodes one apart.accepted) apart.numbers;
      accepted = all_last (λ (m : Node). m.id ≤ accepted_in m.profile (with_node n rows)) rows.nodes n
          (still_accepted rows (with_node n rows) rows.nodes (λ m. more_counted n.profile n.id m rows.profiles rows.nodes (rows.nodes ++ n ∷ []) rows.replies (omega (arith, one))) apart.accepted) (omega (arith, here));
    }

-- ---- a row changed, which keeps its keys

module _ (profile file : ℕ) (method : Method) (mismatch : Bool) (hash : HashValue) (puids : List (List ℕ)) where
  abbrev change : Node → Node
  change = changed_where (is_node profile file) (finished method mismatch hash puids)

  same_keys : (n : Node) → ((change n).profile ≡ n.profile) × ((change n).id ≡ n.id) × ((change n).parent ≡ n.parent) × ((change n).name ≡ n.name)
  same_keys n = elim (cases_Bool (is_node profile file n)) [ inl is ↦ rw is (refl, refl, refl, refl) | inr isnt ↦ rw isnt (refl, refl, refl, refl) ]

  same_child : (at parent : ℕ) (name : List ℕ) (n : Node) → is_child at parent name (change n) ≡ is_child at parent name n
  same_child at parent name n =
      let same = same_keys n in
      ap (λ p. (p == at) && (((change n).parent == parent) && bytes_eq (change n).name name)) same.0 ∙ ap (λ q. (n.profile == at) && ((q == parent) && bytes_eq (change n).name name)) same.2
      ∙ ap (λ t. (n.profile == at) && ((n.parent == parent) && bytes_eq t name)) same.3

  above_changed : (low : Node) (ns : List Node) → AllByRecursion (λ m. m.profile ≡ low.profile → low.id < m.id) ns → AllByRecursion (λ m. m.profile ≡ (change low).profile → (change low).id < m.id) (map change ns)
  above_changed low [] above = tt
  above_changed low (n ∷ ns) above =
      (λ at. let here = same_keys low in let there = same_keys n in let less = above.0 (sym there.0 ∙ at ∙ here.0) in omega (arith, less, here.1, there.1), above_changed low ns above.1)

  order_changed : (ns : List Node) → AreInOrder ns → AreInOrder (map change ns)
  order_changed [] rise = tt
  order_changed (n ∷ ns) rise = (above_changed n ns rise.0, order_changed ns rise.1)

  accepted_changed : (rows : Rows) (ns : List Node) → AllByRecursion (λ (n : Node). n.id ≤ accepted_in n.profile rows) ns → AllByRecursion (λ (n : Node). n.id ≤ accepted_in n.profile rows) (map change ns)
  accepted_changed rows [] all = tt
  accepted_changed rows (n ∷ ns) all =
      (let same = same_keys n in subst (λ m. (change n).id ≤ accepted_in m rows) (sym same.0) (let here = all.0 in omega (arith, same.1)), accepted_changed rows ns all.1)

  pub apart_with_finished : (rows : Rows) → AreApart rows → AreApart (with_finished profile file method mismatch hash puids rows)
  apart_with_finished rows apart = record {
    replies = apart.replies;
    children = λ at parent name. let few = apart.children at parent name in let same = as_many (is_child at parent name) change (same_child at parent name) rows.nodes in omega (arith, few, same);
    numbers = order_changed rows.nodes apart.numbers;
    accepted = still_accepted rows (with_finished profile file method mismatch hash puids rows) (map change rows.nodes) (as_before rows (with_finished profile file method mismatch hash puids rows) refl) (accepted_changed rows rows.nodes apart.accepted);
  }

-- ---- a row taken out

above_left : (p : Node → Bool) (low : Node) (ns : List Node) → AllByRecursion (λ m. m.profile ≡ low.profile → low.id < m.id) ns → AllByRecursion (λ m. m.profile ≡ low.profile → low.id < m.id) (filter p ns)
above_left p low [] above = tt
above_left p low (n ∷ ns) above = elim (cases_Bool (p n)) [
  | inl is ↦ rw is (above.0, above_left p low ns above.1)
  | inr isnt ↦ rw isnt (above_left p low ns above.1)
]

order_left : (p : Node → Bool) (ns : List Node) → AreInOrder ns → AreInOrder (filter p ns)
order_left p [] rise = tt
order_left p (n ∷ ns) rise = elim (cases_Bool (p n)) [
  | inl is ↦ rw is (above_left p n ns rise.0, order_left p ns rise.1)
  | inr isnt ↦ rw isnt (order_left p ns rise.1)
]

accepted_left : (p : Node → Bool) (rows : Rows) (ns : List Node) → AllByRecursion (λ (n : Node). n.id ≤ accepted_in n.profile rows) ns → AllByRecursion (λ (n : Node). n.id ≤ accepted_in n.profile rows) (filter p ns)
accepted_left p rows [] all = tt
accepted_left p rows (n ∷ ns) all = elim (cases_Bool (p n)) [
  | inl is ↦ rw is (all.0, accepted_left p rows ns all.1)
  | inr isnt ↦ rw isnt (accepted_left p rows ns all.1)
]

pub apart_without_node : (profile file : ℕ) (rows : Rows) → AreApart rows → AreApart (without_node profile file rows)
apart_without_node profile file rows apart = record {
  replies = apart.replies;
  children = λ at parent name. let few = apart.children at parent name in let less = fewer (is_child at parent name) (λ n. not (is_node profile file n)) rows.nodes in omega (arith, few, less);
  numbers = order_left (λ n. not (is_node profile file n)) rows.nodes apart.numbers;
  accepted = still_accepted rows (without_node profile file rows) (without_node profile file rows).nodes (as_before rows (without_node profile file rows) refl) (accepted_left (λ n. not (is_node profile file n)) rows rows.nodes apart.accepted);
}
