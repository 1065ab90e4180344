-- How many profiles, unfinished files and replies there are after each change.
use Rattle.std.proofs.Common.{◌≡◌, inl, inr, ℕ, zero, suc, ◌+◌, ◌-◌, ◌≤◌, List, [], ◌∷◌, ◌++◌, length, map, find, filter, Bool, true, false, not, Some, option_map, refl, sym, ap, ◌∙◌, arith, length-append}
use Rattle.std.proofs.lemmas.Bool.{cases_Bool}
use Rattle.std.proofs.lemmas.List.Elements.{filter-append}
use Rattle.std.proofs.lemmas.List.Sums.{length-filter}
use Rattle.std.specs.List.{count_by}
use Rattle.droid_frame.specs.declared.hash_kind.HashKind.{HashKind}
use Rattle.droid_frame.specs.declared.hash_value.HashValue.{HashValue}
use Rattle.droid_frame.specs.declared.method.Method.{Method}
use Rattle.droid_store.specs.KeyedRows.{changed_where}
use Rattle.droid_store.specs.declared.rows.Counts.{Counts}
use Rattle.droid_store.specs.declared.rows.Entry.{Entry}
use Rattle.droid_store.specs.declared.rows.NodeState.TheVariants.{Folder, Unfinished}
use Rattle.droid_store.specs.declared.rows.ProfileRow.{ProfileRow}
use Rattle.droid_store.specs.Changes.{with_reply, with_profile, counted, with_node, finished, with_finished, without_node, IsOpen}
use Rattle.droid_store.specs.Kept.{AreApart}
use Rattle.droid_store.specs.Rows.{Node, Rows, is_node, is_unfinished, counts_of}
use Rattle.droid_store.proofs.NodeOrder.{few_numbered}

abbrev waits : Node → Bool
waits n = is_unfinished n.state

counts_are : (profiles unfinished accepted a b c : ℕ) → profiles ≡ a → unfinished ≡ b → accepted ≡ c
    → ◌≡◌ {A = Counts} (record { profiles = profiles; unfinished = unfinished; accepted = accepted }) (record { profiles = a; unfinished = b; accepted = c })
counts_are profiles unfinished accepted a b c p q r = rw (p, q, r) refl

-- ---- one row more

pub counts_with_reply : (e : Entry) (rows : Rows) → counts_of (with_reply e rows) ≡ record (counts_of rows) { accepted = (counts_of rows).accepted + 1 }
counts_with_reply e rows = counts_are _ _ _ (length rows.profiles) (count_by waits rows.nodes) (length rows.replies + 1) refl refl (length-append rows.replies (e ∷ []))

pub counts_with_profile : (scan_limit : ℕ) (match_all : Bool) (hash : HashKind) (rows : Rows) → counts_of (with_profile scan_limit match_all hash rows) ≡ record (counts_of rows) { profiles = (counts_of rows).profiles + 1 }
counts_with_profile scan_limit match_all hash rows =
    counts_are _ _ _ (length rows.profiles + 1) (count_by waits rows.nodes) (length rows.replies) (length-append rows.profiles (record { scan_limit = scan_limit; match_all = match_all; nodes = 0; hash = hash } ∷ [])) refl refl

as_many_profiles : (profile nodes : ℕ) (ps : List ProfileRow) → length (counted profile nodes ps) ≡ length ps
as_many_profiles profile nodes [] = refl
as_many_profiles zero nodes (p ∷ ps) = refl
as_many_profiles (suc zero) nodes (p ∷ ps) = refl
as_many_profiles (suc (suc profile)) nodes (p ∷ ps) = ap suc (as_many_profiles (suc profile) nodes ps)

by_length : (ns : List Node) → count_by waits ns ≡ length (filter waits ns)
by_length ns = sym (length-filter waits ns)

one_node : (n : Node) (ns : List Node) → length (filter waits (ns ++ n ∷ [])) ≡ length (filter waits ns) + length (filter waits (n ∷ []))
one_node n ns = ap length (filter-append waits ns (n ∷ [])) ∙ length-append (filter waits ns) (filter waits (n ∷ []))

pub counts_with_folder : (n : Node) (rows : Rows) → n.state ≡ Folder → counts_of (with_node n rows) ≡ counts_of rows
counts_with_folder n rows is =
    let none : length (filter waits (n ∷ [])) ≡ 0 = rw is refl in
    counts_are _ _ _ (length rows.profiles) (count_by waits rows.nodes) (length rows.replies) (as_many_profiles n.profile n.id rows.profiles)
    (by_length (rows.nodes ++ n ∷ []) ∙ one_node n rows.nodes ∙ omega (arith, none, by_length rows.nodes)) refl

pub counts_with_file : (n : Node) (rows : Rows) → n.state ≡ Unfinished → counts_of (with_node n rows) ≡ record (counts_of rows) { unfinished = (counts_of rows).unfinished + 1 }
counts_with_file n rows is =
    let one : length (filter waits (n ∷ [])) ≡ 1 = rw is refl in
    counts_are _ _ _ (length rows.profiles) (count_by waits rows.nodes + 1) (length rows.replies) (as_many_profiles n.profile n.id rows.profiles)
    (by_length (rows.nodes ++ n ∷ []) ∙ one_node n rows.nodes ∙ omega (arith, one, by_length rows.nodes)) refl

-- ---- a file that no longer waits for pieces

nothing_in : (ns : List Node) → length ns ≤ 0 → ns ≡ []
nothing_in [] few = refl
nothing_in (n ∷ ns) few = absurd (omega arith)

module _ (test : Node → Bool) where
  none_goes : (ns : List Node) → filter test ns ≡ [] → filter (λ n. not (test n)) ns ≡ ns
  none_goes [] none = refl
  none_goes (n ∷ ns) none = elim (cases_Bool (test n)) [
    | inl is ↦ absurd (let it = rw is at none in cc)
    | inr isnt ↦ rw isnt (ap (λ ms. n ∷ ms) (none_goes ns (rw isnt at none)))
  ]

  none_changes : (change : Node → Node) (ns : List Node) → filter test ns ≡ [] → map (changed_where test change) ns ≡ ns
  none_changes change [] none = refl
  none_changes change (n ∷ ns) none = elim (cases_Bool (test n)) [
    | inl is ↦ absurd (let it = rw is at none in cc)
    | inr isnt ↦ rw isnt (ap (λ ms. n ∷ ms) (none_changes change ns (rw isnt at none)))
  ]

  only : (n : Node) (ns : List Node) → test n ≡ true → length (filter test (n ∷ ns)) ≤ 1 → filter test ns ≡ []
  only n ns is few = let rest = rw is at few in nothing_in (filter test ns) (omega arith)

  waiting : (n : Node) (ns : List Node) → test n ≡ true → option_map (λ (m : Node). m.state) (find test (n ∷ ns)) ≡ Some Unfinished → waits n ≡ true
  waiting n ns is found = let here = rw is at found in let state : n.state ≡ Unfinished = cc in rw state refl

  one_left : (ns : List Node) → length (filter test ns) ≤ 1 → option_map (λ (m : Node). m.state) (find test ns) ≡ Some Unfinished
      → length (filter waits (filter (λ n. not (test n)) ns)) + 1 ≡ length (filter waits ns)
  one_left [] few found = absurd cc
  one_left (n ∷ ns) few found = elim (cases_Bool (test n)) [
    | inl is ↦ rw (is, waiting n ns is found, none_goes ns (only n ns is few)) (omega arith)
    | inr isnt ↦ elim (cases_Bool (waits n)) [
      | inl waiting ↦ rw (isnt, waiting) (let rest = one_left ns (rw isnt at few) (rw isnt at found) in omega arith)
      | inr done ↦ rw (isnt, done) (one_left ns (rw isnt at few) (rw isnt at found))
    ]
  ]

  one_finished : (change : Node → Node) → ((n : Node) → waits (change n) ≡ false) → (ns : List Node) → length (filter test ns) ≤ 1 → option_map (λ (m : Node). m.state) (find test ns) ≡ Some Unfinished
      → length (filter waits (map (changed_where test change) ns)) + 1 ≡ length (filter waits ns)
  one_finished change done [] few found = absurd cc
  one_finished change done (n ∷ ns) few found = elim (cases_Bool (test n)) [
    | inl is ↦ rw (is, waiting n ns is found, done n, none_changes change ns (only n ns is few)) (omega arith)
    | inr isnt ↦ elim (cases_Bool (waits n)) [
      | inl waiting ↦ rw (isnt, waiting) (let rest = one_finished change done ns (rw isnt at few) (rw isnt at found) in omega arith)
      | inr done_before ↦ rw (isnt, done_before) (one_finished change done ns (rw isnt at few) (rw isnt at found))
    ]
  ]

module _ (profile file : ℕ) (rows : Rows) (apart : AreApart rows) (is_open : IsOpen profile file rows) where
  left : length (filter waits (without_node profile file rows).nodes) + 1 ≡ length (filter waits rows.nodes)
  left = one_left (is_node profile file) rows.nodes (few_numbered profile file rows.nodes apart.numbers) is_open

  -- an open file is counted
  pub open_is_counted : 1 ≤ (counts_of rows).unfinished
  open_is_counted = omega (arith, left, by_length rows.nodes)

  pub counts_without_node : counts_of (without_node profile file rows) ≡ record (counts_of rows) { unfinished = (counts_of rows).unfinished - 1 }
  counts_without_node =
      counts_are _ _ _ (length rows.profiles) (count_by waits rows.nodes - 1) (length rows.replies) refl (by_length (without_node profile file rows).nodes ∙ omega (arith, left, by_length rows.nodes)) refl

  pub counts_with_finished : (method : Method) (mismatch : Bool) (hash : HashValue) (puids : List (List ℕ))
      → counts_of (with_finished profile file method mismatch hash puids rows) ≡ record (counts_of rows) { unfinished = (counts_of rows).unfinished - 1 }
  counts_with_finished method mismatch hash puids =
      let done = one_finished (is_node profile file) (finished method mismatch hash puids) (λ n. refl) rows.nodes (few_numbered profile file rows.nodes apart.numbers) is_open in
      counts_are _ _ _ (length rows.profiles) (count_by waits rows.nodes - 1) (length rows.replies) refl (by_length (with_finished profile file method mismatch hash puids rows).nodes ∙ omega (arith, done, by_length rows.nodes)) refl
