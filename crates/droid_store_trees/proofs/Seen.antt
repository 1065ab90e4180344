-- What a store shows after a call.
use Rattle.std.proofs.Common.{◌≡◌, ℕ, List, [], map, refl, ap, ◌∙◌, sym, Result, Ok, Err, OnOk, OnErr, IfErr}
use Rattle.sqlite_value.specs.Order.{Row}
use Rattle.sqlite_trees.specs.declared.error.StoreError.{StoreError}
use Rattle.sqlite_trees.specs.View.{Snapshot, View, KeepsSchema, IsFailure, SetsTree, OnlyWrites, Commits, OnlyCommits}
use Rattle.droid_store_trees.specs.declared.storage.TreeStore.{TreeStore}
use Rattle.droid_store_trees.specs.Shown.{shown, current, view, IsStill}

-- over the same commit and with the same savepoints
pub seen : (old new : TreeStore) (now : Snapshot) → new.base ≡ old.base → new.marks ≡ old.marks → shown (current new) ≡ now
    → view new ≡ record (view old) { trees = now.trees; shape = now.shape; reals = now.reals; cursors = (view new).cursors }
seen old new now base marks is = λ i. record (view new) {
  trees = (is i).trees;
  shape = (is i).shape;
  reals = (is i).reals;
  committed = (shown (base i)).trees;
  committed_shape = (shown (base i)).shape;
  committed_reals = (shown (base i)).reals;
  marks = map shown (marks i).items;
}

pub still : (old new : TreeStore) → new.base ≡ old.base → new.marks ≡ old.marks → shown (current new) ≡ shown (current old) → IsStill (view old) (view new)
still old new base marks same = seen old new (shown (current old)) base marks same

pub schema_kept : (old new : View) → new.is_numbered ≡ old.is_numbered → IsStill old new → KeepsSchema old new
schema_kept old new numbered same = record {
  shape = ap (λ (v : View). v.shape) same;
  reals = ap (λ (v : View). v.reals) same;
  committed_shape = ap (λ (v : View). v.committed_shape) same;
  committed_reals = ap (λ (v : View). v.committed_reals) same;
  numbered = numbered;
}

pub fails : (old new : View) (e : StoreError) → IsStill old new → IsFailure old new e
fails old new e same = record {
  kept = record {
    shape = ap (λ (v : View). v.shape) same;
    reals = ap (λ (v : View). v.reals) same;
    committed_shape = ap (λ (v : View). v.committed_shape) same;
    committed_reals = ap (λ (v : View). v.committed_reals) same;
    numbered = ap (λ (v : View). v.is_numbered) same;
    was_open = λ h. sym (ap (λ (v : View). v.is_open) same) ∙ h;
    committed = λ _. ap (λ (v : View). v.committed) same;
    marks = λ _. ap (λ (v : View). v.marks) same;
  };
  unchanged = λ _. same;
  refused = λ _ _. same;
}

pub commits : (old new : TreeStore) → shown new.base ≡ shown (current old) → shown (current new) ≡ shown (current old) → new.marks.items ≡ [] → Commits (view old) (view new)
commits old new base now marks = record {
  sound = refl;
  is = λ i. record (view new) {
    trees = (now i).trees;
    shape = (now i).shape;
    reals = (now i).reals;
    committed = (base i).trees;
    committed_shape = (base i).shape;
    committed_reals = (base i).reals;
    marks = map shown (marks i);
  };
}

pub only_commits : (old new : View) → Commits old new → OnlyCommits old new
only_commits old new h = λ i. record (h.is i) { committed = new.committed }

pub frame : (old new : TreeStore) (t : ℕ) (edit : List Row → List Row) → SetsTree (view old) (view new) t edit → OnlyWrites (view old) (view new)
frame old new t edit h = λ i. record (h.is i) { trees = (view new).trees; cursors = (view new).cursors }

module _ {U : Type 0} (old new : TreeStore) (t : ℕ) (edit : List Row → List Row) where
  pub failing : (r : Result U StoreError) → OnErr r (IsStill (view old) (view new)) → IfErr r (IsFailure (view old) (view new))
  failing (Ok x) h = tt
  failing (Err e) h = fails (view old) (view new) e h

  pub keeps : (r : Result U StoreError) → OnOk r (SetsTree (view old) (view new) t edit) → OnErr r (IsStill (view old) (view new))
      → KeepsSchema (view old) (view new) × ((view new).committed ≡ (view old).committed)
  keeps (Ok x) h _ = (
    record {
      shape = ap (λ (v : View). v.shape) h.is;
      reals = ap (λ (v : View). v.reals) h.is;
      committed_shape = ap (λ (v : View). v.committed_shape) h.is;
      committed_reals = ap (λ (v : View). v.committed_reals) h.is;
      numbered = refl;
    },
    ap (λ (v : View). v.committed) h.is,
  )
  keeps (Err e) _ h = (schema_kept (view old) (view new) refl h, ap (λ (v : View). v.committed) h)
