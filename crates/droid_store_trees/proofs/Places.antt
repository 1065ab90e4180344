-- The tree that has a number.
use Rattle.std.proofs.Common.{◌≡◌, ◌≢◌, ℕ, zero, suc, ◌<◌, ◌^◌, inl, inr, eq-eqb, ne_eqb, List, [], ◌∷◌, length, map, set, get_or, refl, sym, ap, ◌∙◌, arith}
use Rattle.std.proofs.lemmas.List.{map-set, length-map, set-get_or}
use Rattle.std.proofs.lemmas.Bool.{cases_eq}
use mathlib.Core.Path.{fun_ext}
use Rattle.sqlite_trees.specs.declared.store.Shape.{Shape}
use Rattle.sqlite_trees.specs.declared.store.Shape.TheVariants.{Absent}
use Rattle.sqlite_trees.specs.Objects.{set_at}
use Rattle.sqlite_trees.specs.Tree.{with_tree}
use Rattle.sqlite_trees.specs.Listing.{no_heading, shape_in}
use Rattle.sqlite_trees.proofs.StoreLemmas.{get_or-set_cases, named, unnumbered}
use Rattle.droid_store_trees.specs.declared.edit.Edit.{Edit}
use Rattle.droid_store_trees.specs.declared.edit.Edit.TheVariants.{Put, Delete, Insert, Remove}
use Rattle.droid_store_trees.specs.declared.tree.Tree.{Tree}
use Rattle.droid_store_trees.specs.declared.forest.Forest.{Forest}
use Rattle.droid_store_trees.specs.Edits.{Fits}
use Rattle.droid_store_trees.specs.Shown.{heading, rows_of, shape_of, shown}

pub present : (trees : List Tree) (t : ℕ) → shape_in (map heading trees) t ≢ Absent → t < length trees
present [] t h = absurd (h refl)
present (x ∷ trees) zero h = omega arith
present (x ∷ trees) (suc t) h = omega (arith, present trees t h)

pub fits_present : (e : Edit) (s : Shape) → Fits e s → s ≢ Absent
fits_present (Put row) s h none = let is = h.0 in cc
fits_present (Delete id) s h none = cc
fits_present (Insert o entry) s h none = cc
fits_present (Remove o entry) s h none = cc

pub tree_at : (trees : List Tree) (t : ℕ) (x : Tree) → t < length trees → x ≡ get_or trees t x
    → (shape_in (map heading trees) t ≡ x.shape) × (get_or (map (λ y. y.rows) trees) t [] ≡ x.rows)
tree_at [] t x within is = absurd (omega arith)
tree_at (y ∷ trees) zero x within is = (ap (λ z. z.shape) (sym is), ap (λ z. z.rows) (sym is))
tree_at (y ∷ trees) (suc t) x within is = tree_at trees t x (omega arith) is

pub heading_at : (trees : List Tree) (t : ℕ) (x : Tree) → t < length trees → x ≡ get_or trees t x → get_or (map heading trees) t no_heading ≡ heading x
heading_at [] t x within is = absurd (omega arith)
heading_at (y ∷ trees) zero x within is = ap heading (sym is)
heading_at (y ∷ trees) (suc t) x within is = heading_at trees t x (omega arith) is

pub headings_kept : (trees : List Tree) (t : ℕ) (was new : Tree) → t < length trees → was ≡ get_or trees t was → heading new ≡ heading was → map heading (set trees t new) ≡ map heading trees
headings_kept trees t was new within is same = rw (map-set, same, ← heading_at trees t was within is) (set-get_or (map heading trees) t no_heading)

pub rows_set : (trees : List Tree) (t : ℕ) (x : Tree) → t < length trees
    → (λ (k : ℕ). get_or (map (λ y. y.rows) (set trees t x)) k []) ≡ with_tree (λ k. get_or (map (λ y. y.rows) trees) k []) t x.rows
rows_set trees t x within =
    fun_ext (λ k. ap (λ l. get_or l k []) (map-set (λ y. y.rows) trees t x) ∙ get_or-set_cases _ t _ [] (rw length-map within) k)

-- a number that a call can name is of no tree that the store adds
pub shape_shown : (f : Forest) (t : ℕ) → t < 2 ^ 32 → (shown f).shape t ≡ shape_of f t
shape_shown f t low = rw (unnumbered t low, named t low) refl

pub rows_shown : (f : Forest) (t : ℕ) → t < 2 ^ 32 → (shown f).trees t ≡ rows_of f t
rows_shown f t low = rw (unnumbered t low, named t low) refl

pub set_same : {X : Type 0} (f : ℕ → X) (t : ℕ) → set_at f t (f t) ≡ f
set_same f t = fun_ext (λ k. elim (cases_eq k t) [ inl same ↦ rw (eq-eqb k t same, same) | inr other ↦ rw (ne_eqb k t other) ])
