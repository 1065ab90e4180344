-- Trees are made, dropped and described anew.
use Rattle.std.proofs.Common.{◌≡◌, ◌≢◌, ℕ, ◌<◌, ◌^◌, false, Some, List, [], ◌∷◌, length, set, refl, sym, ap, ◌∙◌, arith}
use Rattle.std.proofs.lemmas.List.{length-map}
use Rattle.sqlite_value.specs.Order.{Row}
use Rattle.sqlite_trees.specs.declared.store.Shape.{Shape}
use Rattle.sqlite_trees.specs.declared.store.Shape.TheVariants.{Absent}
use Rattle.sqlite_trees.specs.declared.schema.Object.{Object}
use Rattle.sqlite_trees.specs.Tree.{with_tree, put_row}
use Rattle.sqlite_trees.specs.View.{Snapshot, View}
use Rattle.sqlite_trees.specs.Objects.{catalog_tree, set_at, SetsObject, Relists, object_row, description}
use Rattle.sqlite_trees.specs.Listing.{Heading, objects_from, reals_unless_absent, objects_from-set}
use Rattle.sqlite_trees.proofs.StoreLemmas.{present_reals}
use Rattle.droid_store_trees.specs.declared.tree.Tree.{Tree}
use Rattle.droid_store_trees.specs.declared.forest.Forest.{Forest}
use Rattle.droid_store_trees.specs.declared.storage.TreeStore.{TreeStore}
use Rattle.droid_store_trees.specs.Alike.{Replaces, Relabels}
use Rattle.droid_store_trees.specs.Shown.{heading, headings, shape_of, shown, current, view, IsStill}
use Rattle.droid_store_trees.proofs.Places.{set_same, shape_shown, rows_shown}
use Rattle.droid_store_trees.proofs.Seen.{seen}
use Rattle.droid_store_trees.proofs.Showing.{replaced, replaced_shown}

-- an empty tree has the number
pub object_set : (old new : TreeStore) (t : ℕ) (it : Tree) → t < 2 ^ 32 → Replaces (current old) (current new) t it → new.base ≡ old.base → new.marks ≡ old.marks
    → it.rows ≡ [] → (edit : List Row → List Row) → ((hs : List Heading) → t < length hs → objects_from 0 (set hs t (heading it)) ≡ edit (objects_from 0 hs))
    → SetsObject (view old) (view new) t it.shape (reals_unless_absent it.shape it.reals) edit
object_set old new t it low h base marks empty edit objects =
    let s = shown (current old) in
    let made : shown (current new) ≡ replaced s t it edit =
    replaced_shown h.room (current new) t it low h.within h.is h.version edit (objects (headings h.room) (rw length-map h.within)) ∙ ap (λ (x : Snapshot). replaced x t it edit) h.alike.shown in
    record {
      sound = refl;
      is = seen old new (replaced s t it edit) base marks made ∙ (λ i. record (view old) {
        trees = with_tree (with_tree s.trees t (empty i)) catalog_tree (edit (s.trees catalog_tree));
        shape = set_at s.shape t it.shape;
        reals = set_at s.reals t (reals_unless_absent it.shape it.reals);
        cursors = (view new).cursors;
      });
    }

pub relists_nothing : (old new : View) → old.is_broken ≡ false → IsStill old new → Relists old new []
relists_nothing old new sound still = record { sound = sound; is = still ∙ (λ i. record old { trees = sym (set_same old.trees catalog_tree) i; cursors = new.cursors }) }

-- a tree is described anew
pub relabelled : (old new : TreeStore) (t : ℕ) (o : Object) → t < 2 ^ 32 → Relabels (current old) (current new) t o → t < length (current old).trees.items → new.base ≡ old.base → new.marks ≡ old.marks
    → (view old).shape t ≡ o.shape → o.shape ≢ Absent → Relists (view old) (view new) ((t, o) ∷ [])
relabelled old new t o low h within base marks shaped there =
    let f = current old in
    let s = shown f in
    let kind : shape_of f t ≡ o.shape = sym (shape_shown f t low) ∙ shaped in
    let is : heading h.it ≡ (o.shape, o.reals, description o) = h.heading ∙ ap (λ (k : Shape). let x : Heading = (k, o.reals, description o) in x) kind in
    let shape : h.it.shape ≡ o.shape = ap (λ (x : Heading). x.0) is in
    let bits : h.it.reals ≡ o.reals = ap (λ (x : Heading). x.1) is in
    let edit = put_row (object_row t o) in
    let objects : objects_from 0 (set (headings f) t (heading h.it)) ≡ edit (objects_from 0 (headings f)) =
    rw is (objects_from-set (headings f) 0 t t (o.shape, o.reals, description o) (omega arith) (rw length-map within) there) in
    let made = replaced_shown f (current new) t h.it low within h.is h.version edit objects in
    let rows : h.it.rows ≡ s.trees t = h.rows ∙ sym (rows_shown f t low) in
    let real : reals_unless_absent h.it.shape h.it.reals ≡ o.reals = rw (shape, bits) (present_reals o.shape o.reals there) in
    let same : with_tree s.trees t h.it.rows ≡ s.trees = ap (with_tree s.trees t) rows ∙ set_same s.trees t in
    let kept : set_at s.shape t h.it.shape ≡ s.shape = ap (set_at s.shape t) (shape ∙ sym shaped) ∙ set_same s.shape t in
    record {
      sound = refl;
      is = seen old new (replaced s t h.it edit) base marks made ∙ (λ i. record (view old) {
        trees = with_tree (same i) catalog_tree (edit (s.trees catalog_tree));
        shape = kept i;
        reals = set_at s.reals t (real i);
        cursors = (view new).cursors;
      });
    }

-- the store, where the transaction sees these trees
abbrev pub with_forest : TreeStore → Forest → TreeStore
with_forest s f = record { alloc = s.alloc; base = s.base; changed = Some f; cursors = s.cursors; marks = s.marks }
