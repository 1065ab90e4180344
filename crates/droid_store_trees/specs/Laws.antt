-- For proofs: the laws of a store, which hold for trees that keep their order.
use Rattle.std.specs.Prelude.{◌≡◌, ℕ, zero, suc, ◌==◌, if◌then◌else◌, true, false, List, [], ◌∷◌, map, slice_index_or}
use Rattle.std.proofs.Common.{subst, refl}
use Rattle.std.proofs.Math.Logic.{∥∥₁_elim}
use Rattle.sqlite_trees.specs.declared.store.Shape.TheVariants.{Table}
use Rattle.sqlite_trees.specs.View.{IsShaped, IsOrdered}
use Rattle.sqlite_trees.specs.Objects.{catalog_tree, version_tree, version_rows, set_at, IsListed}
use Rattle.sqlite_trees.specs.Listing.{shape_in, objects_from, objects_are_ordered, objects_are_listed, listed_once}
use Rattle.sqlite_trees.specs.Tree.{with_tree}
use Rattle.sqlite_trees.specs.Props.{IsShaped-prop}
use Rattle.droid_store_trees.specs.declared.tree.Tree.{Tree}
use Rattle.droid_store_trees.specs.declared.forest.Forest.{Forest}
use Rattle.droid_store_trees.specs.Shown.{heading, headings, rows_of, shape_of, shown}

trees_keep_order : (trees : List Tree) (t : ℕ)
    → IsShaped (shape_in (map heading trees) t) (slice_index_or (map (λ x. x.rows) trees) t [])
trees_keep_order [] t = refl
trees_keep_order (x ∷ trees) zero = ∥∥₁_elim x.ordered (IsShaped-prop x.shape x.rows) (λ h. h)
trees_keep_order (x ∷ trees) (suc t) = trees_keep_order trees t

pub is_ordered : (f : Forest) → IsOrdered (shown f).shape (shown f).trees
is_ordered f t =
    let numbered =
    elim (t == catalog_tree) as (λ b.
    IsShaped (if b then Table else shape_of f t) (if b then objects_from 0 (headings f) else rows_of f t))
    [ true ↦ objects_are_ordered (headings f) 0 | false ↦ trees_keep_order f.trees.items t ] in
    elim (t == version_tree) as (λ b.
    IsShaped (if b then Table else set_at (shape_of f) catalog_tree Table t)
    (if b then version_rows f.version else with_tree (rows_of f) catalog_tree (objects_from 0 (headings f)) t))
    [ true ↦ ((tt, tt), (refl, tt)) | false ↦ numbered ]

pub is_listed : (f : Forest) → IsListed ((shown f).trees catalog_tree) (shown f).shape (shown f).reals
is_listed f = objects_are_listed (headings f)

pub is_unaltered : (a b : Forest) → (shown a).trees catalog_tree ≡ (shown b).trees catalog_tree
    → ((shown a).shape ≡ (shown b).shape) × ((shown a).reals ≡ (shown b).reals)
is_unaltered a b same =
    listed_once _ _ _ _ _ (subst (λ rows. IsListed rows (shown a).shape (shown a).reals) same (is_listed a))
    (is_listed b)
