-- What trees show after an edit.
use Rattle.std.proofs.Common.{◌≡◌, ℕ, zero, suc, ◌<◌, ◌^◌, true, false, List, [], ◌∷◌, ◌++◌, length, map, set, get_or, cond, eqb, refl, ap, ◌∙◌, arith, inl, inr, eq-eqb, ne_eqb}
use Rattle.std.proofs.lemmas.Bool.{cases_eq}
use Rattle.std.proofs.lemmas.List.{map-set, map-append, length-map}
use mathlib.Core.Path.{fun_ext}
use Rattle.sqlite_value.specs.Order.{Row}
use Rattle.sqlite_trees.specs.declared.store.Shape.TheVariants.{Table}
use Rattle.sqlite_trees.specs.Tree.{Trees, with_tree}
use Rattle.sqlite_trees.specs.View.{Snapshot}
use Rattle.sqlite_trees.specs.Objects.{catalog_tree, version_tree, with_version, set_at}
use Rattle.sqlite_trees.specs.Listing.{Heading, no_heading, objects_from, shape_in, reals_in, reals_unless_absent, objects_from-push}
use Rattle.sqlite_trees.specs.Memory.{snapshot_of}
use Rattle.sqlite_trees.proofs.StoreLemmas.{get_or-set_cases, named, under_version, versioned_edit, versioned_object}
use Rattle.droid_store_trees.specs.declared.tree.Tree.{Tree}
use Rattle.droid_store_trees.specs.declared.forest.Forest.{Forest}
use Rattle.droid_store_trees.specs.Alike.{AreAlike}
use Rattle.droid_store_trees.specs.Shown.{heading, headings, rows_of, shape_of, shown}
use Rattle.droid_store_trees.proofs.Places.{rows_set}

-- the trees with the list of them
abbrev pub listed : Forest → Trees
listed f = with_tree (rows_of f) catalog_tree (objects_from 0 (headings f))

pub alike : (old new : Forest) → headings new ≡ headings old → rows_of new ≡ rows_of old → new.version ≡ old.version → AreAlike old new
alike old new hs rows version = record { rows = rows; shapes = ap shape_in hs; shown = λ i. snapshot_of (hs i) (rows i) (version i) }

pub alike_items : (old new : Forest) → new.trees.items ≡ old.trees.items → new.version ≡ old.version → AreAlike old new
alike_items old new is version = alike old new (ap (map heading) is) (λ i t. get_or (map (λ (x : Tree). x.rows) (is i)) t []) version

pub alike_on : (a b c : Forest) → AreAlike a b → AreAlike b c → AreAlike a c
alike_on a b c p q = record { rows = q.rows ∙ p.rows; shapes = q.shapes ∙ p.shapes; shown = q.shown ∙ p.shown }

push_default : {X : Type 0} (xs : List X) (d : X) (k : ℕ) → get_or (xs ++ d ∷ []) k d ≡ get_or xs k d
push_default [] d zero = refl
push_default [] d (suc k) = refl
push_default (x ∷ xs) d zero = refl
push_default (x ∷ xs) d (suc k) = push_default xs d k

-- one absent tree more shows nothing
pub alike_push : (old new : Forest) (x : Tree) → heading x ≡ no_heading → x.rows ≡ [] → new.trees.items ≡ old.trees.items ++ x ∷ [] → new.version ≡ old.version → AreAlike old new
alike_push old new x absent empty is version =
    let hs : headings new ≡ headings old ++ no_heading ∷ [] = rw (is, map-append, absent) in
    let rows : rows_of new ≡ rows_of old = fun_ext (λ t. rw (is, map-append, empty) (push_default (map (λ y. y.rows) old.trees.items) [] t)) in
    let at = λ (t : ℕ). ap (λ l. get_or l t no_heading) hs ∙ push_default (headings old) no_heading t in
    let objects : objects_from 0 (headings new) ≡ objects_from 0 (headings old) = ap (objects_from 0) hs ∙ objects_from-push (headings old) 0 in
    record {
      rows = rows;
      shapes = λ i t. (at t i).0;
      shown = λ i. record {
        trees = with_version (with_tree (rows i) catalog_tree (objects i)) (version i);
        shape = set_at (set_at (λ t. (at t i).0) catalog_tree Table) version_tree Table;
        reals = set_at (set_at (λ t. reals_unless_absent (at t i).0 (at t i).1) catalog_tree 0) version_tree 0;
      };
    }

turned : {X : Type 0} (f : ℕ → X) (t : ℕ) (x y : X) → t < 2 ^ 32 → set_at (set_at f t x) catalog_tree y ≡ set_at (set_at f catalog_tree y) t x
turned f t x y low = fun_ext (λ k. elim (cases_eq k t) [ inl same ↦ rw (same, named t low, eq-eqb t t refl) | inr other ↦ rw (ne_eqb k t other) ])

over_list : (db : Trees) (t : ℕ) (rows first second : List Row)
    → with_tree (with_tree (with_tree db catalog_tree first) t rows) catalog_tree second ≡ with_tree (with_tree db t rows) catalog_tree second
over_list db t rows first second = fun_ext (λ k. elim (cases_eq k catalog_tree) [ inl same ↦ rw same | inr other ↦ rw (ne_eqb k catalog_tree other) ])

-- a tree that a call can name is edited
pub edited_shown : (old new : Forest) (t : ℕ) (edit : List Row → List Row) → t < 2 ^ 32 → headings new ≡ headings old → new.version ≡ old.version
    → rows_of new ≡ with_tree (rows_of old) t (edit (rows_of old t)) → shown new ≡ record (shown old) { trees = with_tree (shown old).trees t (edit ((shown old).trees t)) }
edited_shown old new t edit low hs version rows =
    let trees : listed new ≡ with_tree (listed old) t (edit (listed old t)) = rw (hs, rows, named t low) (turned (rows_of old) t _ _ low) in
    let all : with_version (listed new) new.version ≡ with_tree (shown old).trees t (edit ((shown old).trees t)) =
    ap (with_version (listed new)) version ∙ versioned_edit (listed old) (listed new) t old.version edit (omega arith) trees in
    λ i. record {
      trees = all i;
      shape = set_at (set_at (shape_in (hs i)) catalog_tree Table) version_tree Table;
      reals = set_at (set_at (reals_in (hs i)) catalog_tree 0) version_tree 0;
    }

-- the tree with this number is another
abbrev pub replaced : Snapshot → ℕ → Tree → (List Row → List Row) → Snapshot
replaced s t it edit = record {
  trees = with_tree (with_tree s.trees t it.rows) catalog_tree (edit (s.trees catalog_tree));
  shape = set_at s.shape t it.shape;
  reals = set_at s.reals t (reals_unless_absent it.shape it.reals);
}

module _ (room new : Forest) (t : ℕ) (it : Tree) (low : t < 2 ^ 32) (within : t < length room.trees.items)
    (is : new.trees.items ≡ set room.trees.items t it) (version : new.version ≡ room.version) (edit : List Row → List Row)
    (objects : objects_from 0 (set (headings room) t (heading it)) ≡ edit (objects_from 0 (headings room))) where
  hs : headings new ≡ set (headings room) t (heading it)
  hs = ap (map heading) is ∙ map-set heading room.trees.items t it

  at : (k : ℕ) → get_or (headings new) k no_heading ≡ cond (eqb k t) (heading it) (get_or (headings room) k no_heading)
  at k = rw hs (get_or-set_cases _ t _ no_heading (rw length-map within) k)

  rows : rows_of new ≡ with_tree (rows_of room) t it.rows
  rows = ap (λ l k. get_or (map (λ (y : Tree). y.rows) l) k []) is ∙ rows_set room.trees.items t it within

  pub replaced_shown : shown new ≡ replaced (shown room) t it edit
  replaced_shown =
      let trees : listed new ≡ with_tree (with_tree (listed room) t it.rows) catalog_tree (edit (objects_from 0 (headings room))) =
      rw (over_list (rows_of room) t it.rows (objects_from 0 (headings room)) (edit (objects_from 0 (headings room))), hs, objects, rows) in
      let kinds : set_at (shape_of new) catalog_tree Table ≡ set_at (set_at (shape_of room) catalog_tree Table) t it.shape =
      rw (← turned (shape_of room) t it.shape Table low) (fun_ext (λ k. ap (λ (x : Heading). cond (eqb k catalog_tree) Table x.0) (at k) ∙ (elim (eqb k t) as (λ b. cond (eqb k catalog_tree) Table (cond b (heading it) (get_or (headings room) k no_heading)).0 ≡ cond (eqb k catalog_tree) Table (cond b it.shape (shape_of room k))) [ true ↦ refl | false ↦ refl ]))) in
      let real : set_at (reals_in (headings new)) catalog_tree 0 ≡ set_at (set_at (reals_in (headings room)) catalog_tree 0) t (reals_unless_absent it.shape it.reals) =
      rw (← turned (reals_in (headings room)) t (reals_unless_absent it.shape it.reals) 0 low) (fun_ext (λ k. ap (λ (x : Heading). cond (eqb k catalog_tree) 0 (reals_unless_absent x.0 x.1)) (at k) ∙ (elim (eqb k t) as (λ b. cond (eqb k catalog_tree) 0 (reals_unless_absent (cond b (heading it) (get_or (headings room) k no_heading)).0 (cond b (heading it) (get_or (headings room) k no_heading)).1) ≡ cond (eqb k catalog_tree) 0 (cond b (reals_unless_absent it.shape it.reals) (reals_in (headings room) k))) [ true ↦ refl | false ↦ refl ]))) in
      let all : with_version (listed new) new.version ≡ with_tree (with_tree (shown room).trees t it.rows) catalog_tree (edit ((shown room).trees catalog_tree)) =
      ap (with_version (listed new)) version ∙ versioned_object (listed room) (listed new) t room.version it.rows edit (omega arith) trees in
      λ i. record {
        trees = all i;
        shape = (ap (λ f. set_at f version_tree Table) kinds ∙ under_version (set_at (shape_of room) catalog_tree Table) t it.shape Table (omega arith)) i;
        reals = (ap (λ f. set_at f version_tree 0) real ∙ under_version (set_at (reals_in (headings room)) catalog_tree 0) t (reals_unless_absent it.shape it.reals) 0 (omega arith)) i;
      }
