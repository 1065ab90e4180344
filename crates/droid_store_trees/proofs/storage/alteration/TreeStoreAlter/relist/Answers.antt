use Rattle.std.proofs.Common.{◌≡◌, ◌<◌, ◌^◌, ◌+◌, ◌∙◌, ℕ, zero, suc, List, [], ◌∷◌, Some, length, take, take_all, get_or, true, refl, sym, ap, arith}
use Rattle.std.specs.List.{AllByRecursion}
use Rattle.std.proofs.lemmas.List.{take_more}
use Rattle.sqlite_trees.specs.View.{View}
use Rattle.sqlite_trees.specs.Objects.{MayRelist, Relists}
use Rattle.sqlite_trees.proofs.Doubt.{no_doubt}
use Rattle.sqlite_trees.proofs.StoreLemmas.{relists_more}
use Rattle.sqlite_trees.specs.declared.schema.Object.{Object}
use Rattle.droid_store_trees.specs.declared.forest.Forest.{Forest}
use Rattle.droid_store_trees.specs.declared.storage.TreeStore.{TreeStore}
use Rattle.droid_store_trees.specs.Alike.{Relabels}
use Rattle.droid_store_trees.specs.Shown.{current, shown, view}
use Rattle.droid_store_trees.proofs.Altering.{with_forest, relists_nothing, relabelled}
use Rattle.droid_store_trees.proofs.Places.{present, shape_shown}
use Rattle.droid_store_trees.proofs.Seen.{seen}
use Rattle.droid_store_trees.proofs.storage.alteration.TreeStoreAlter.relist.Goals as goal

of_each : {X : Type 0} (P : X → Type 0) (xs : List X) (at : ℕ) (d : X) → AllByRecursion P xs → at < length xs → P (get_or xs at d)
of_each P [] at d all within = absurd (omega arith)
of_each P (x ∷ xs) zero d all within = all.0
of_each P (x ∷ xs) (suc at) d all within = of_each P xs at d all.1 (omega arith)

pub loop-tree-init : goal.loop-tree-init
loop-tree-init c =
    let s = c.args.self.now in
    let f = c.in_ok-forest.forest in
    let alike = rw c.current.ensures at c.in_ok-forest.ensures in
    (relists_nothing (view s) (view (with_forest s f)) refl (seen s (with_forest s f) (shown (current s)) refl refl alike.shown), refl)

more : (a b c : View) (all : List (ℕ × Object)) (at : ℕ) (d : ℕ × Object) → at < length all → Relists a b (take at all) → Relists b c (get_or all at d ∷ []) → Relists a c (take (at + 1) all)
more a b c all at d within p q = rw (take_more all at d within) (relists_more a b c (take at all) (get_or all at d) p q)

module _ (s : TreeStore) (f : Forest) (done : List (ℕ × Object)) (change : ℕ × Object) (may : MayRelist (view s) change) (h : Relists (view s) (view (with_forest s f)) done) where
  shaped : (view (with_forest s f)).shape change.0 ≡ change.1.shape
  shaped = ap (λ (v : View). v.shape change.0) h.is ∙ may.shaped

  low : change.0 < 2 ^ 32
  low = omega (arith, may.low)

  there : change.0 < length f.trees.items
  there = present f.trees.items change.0 (λ none. may.present (sym shaped ∙ shape_shown f change.0 low ∙ none))

  one : (new : Forest) → Relabels f new change.0 change.1 → Relists (view (with_forest s f)) (view (with_forest s new)) (change ∷ [])
  one new relabels = relabelled (with_forest s f) (with_forest s new) change.0 change.1 low relabels there refl refl shaped may.present

pub relist-requires : goal.relist-requires
relist-requires c =
    let may = of_each (MayRelist (view c.args.self.now)) c.args.changes.now c.loop-tree.tree-index _ (c.requires.each (no_doubt true refl)) c.loop-tree-test.true in
    there c.args.self.now c.loop-tree.forest _ _ may c.loop-tree.invariant.0

pub loop-tree-preserved : goal.loop-tree-preserved
loop-tree-preserved c =
    let s = c.args.self.now in
    let f = c.loop-tree.forest in
    let may = of_each (MayRelist (view s)) c.args.changes.now c.loop-tree.tree-index _ (c.requires.each (no_doubt true refl)) c.loop-tree-test.true in (
      more (view s) (view (with_forest s f)) (view (with_forest s c.relist.new.self)) c.args.changes.now c.loop-tree.tree-index _ c.loop-tree-test.true c.loop-tree.invariant.0
          (one s f _ _ may c.loop-tree.invariant.0 c.relist.new.self c.in_ok-relist.ensures.ok),
      refl,
    )

pub returns-clause-ok : goal.returns-clause-ok
returns-clause-ok c _ =
    let s = c.args.self.now in
    let all = rw (take_all _ _ c.loop-tree-test.false) at c.loop-tree.invariant.0 in
    let new : TreeStore = record { alloc = s.alloc; base = s.base; changed = Some c.loop-tree.forest; cursors = c.clear.new.self; marks = s.marks } in
    record { sound = refl; is = λ i. record (all.is i) { cursors = (view new).cursors } }
