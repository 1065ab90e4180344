-- What the trees of a store show.
use Rattle.std.specs.Prelude.{◌≡◌, ℕ, ◌==◌, if◌then◌else◌, true, false, List, [], ◌∷◌, map, take, drop, reverse}
use Rattle.std.specs.Prelude.{slice_index_or, Option, Some, None, option_map}
use Rattle.sqlite_value.specs.Order.{Row}
use Rattle.sqlite_trees.specs.declared.store.Shape.{Shape}
use Rattle.sqlite_trees.specs.Tree.{Trees}
use Rattle.sqlite_trees.specs.View.{Snapshot, View}
use Rattle.sqlite_trees.specs.Listing.{Heading, shape_in}
use Rattle.sqlite_trees.specs.Memory.{snapshot_of}
use Rattle.sqlite_trees.specs.declared.store.Direction.{Direction}
use Rattle.sqlite_trees.specs.declared.store.Direction.TheVariants.{Forward, Backward}
use Rattle.droid_store_trees.specs.declared.tree.Tree.{Tree}
use Rattle.droid_store_trees.specs.declared.cursor.Cursor.{Cursor}
use Rattle.droid_store_trees.specs.declared.forest.Forest.{Forest}
use Rattle.droid_store_trees.specs.declared.storage.TreeStore.{TreeStore}

-- its shape, its REAL columns and its description
abbrev pub heading : Tree → Heading
heading t = (t.shape, t.reals, t.described.value)

-- the heading of each tree
abbrev pub headings : Forest → List Heading
headings f = map heading f.trees.items

-- the rows of each tree; a missing one has none
abbrev pub rows_of : Forest → Trees
rows_of f t = slice_index_or (map (λ x. x.rows) f.trees.items) t []

-- whether each tree is a table, an index or absent
abbrev pub shape_of : Forest → ℕ → Shape
shape_of f = shape_in (headings f)

-- the trees with the list of them and the user version
abbrev pub shown : Forest → Snapshot
shown f = snapshot_of (headings f) (rows_of f) f.version

-- the rows from a position on, or backward those before it
abbrev pub left_from : Direction → ℕ → List Row → List Row
left_from Forward at rows = drop at rows
left_from Backward at rows = reverse (take at rows)

-- the rows that a cursor has still to read
abbrev pub left_of : Forest → Cursor → List Row
left_of f c = left_from c.direction c.at (rows_of f c.tree)

-- the cursor read this row and moved on, or it was at its end
abbrev pub Steps : Forest → Cursor → Row → Option Cursor → Type 0
Steps f cursor row None = left_of f cursor ≡ []
Steps f cursor row (Some moved) = left_of f cursor ≡ row ∷ left_of f moved

-- under this number there is this cursor, and under the others what was there before
abbrev pub SetsCursor : List (Option Cursor) → List (Option Cursor) → ℕ → Cursor → Type 0
SetsCursor old new at cursor =
    (c : ℕ) → slice_index_or new c None ≡ (if c == at then Some cursor else slice_index_or old c None)

-- the trees that were written, or else those before
abbrev pub changed_or : Option Forest → Forest → Forest
changed_or None base = base
changed_or (Some forest) base = forest

-- what the transaction sees
abbrev pub current : TreeStore → Forest
current s = changed_or s.changed s.base

-- all that the kit's contracts ask about a store; one in memory is always open, and never broken
abbrev pub view : TreeStore → View
view s = record {
  trees = (shown (current s)).trees;
  committed = (shown s.base).trees;
  cursors = λ c. option_map (left_of (current s)) (slice_index_or s.cursors.items c None);
  shape = (shown (current s)).shape;
  reals = (shown (current s)).reals;
  committed_shape = (shown s.base).shape;
  committed_reals = (shown s.base).reals;
  marks = map shown s.marks.items;
  is_numbered = true;
  has_sums = false;
  is_open = true;
  is_broken = false;
  is_clean = true;
}

-- only cursors may differ
abbrev pub IsStill : View → View → Type 0
IsStill old new = new ≡ record old { cursors = new.cursors }
