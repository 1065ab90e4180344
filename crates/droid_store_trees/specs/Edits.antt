-- What a write makes of a tree.
use Rattle.std.specs.Prelude.{◌≡◌, List, IsTrue}
use Rattle.sqlite_value.specs.Order.{Row}
use Rattle.sqlite_trees.specs.declared.store.Shape.{Shape}
use Rattle.sqlite_trees.specs.declared.store.Shape.TheVariants.{Table, Index}
use Rattle.sqlite_trees.specs.Tree.{rowid, put_row, without_rowid, insert_entry, remove_entry}
use Rattle.sqlite_trees.specs.View.{is_int}
use Rattle.droid_store_trees.specs.declared.edit.Edit.{Edit}
use Rattle.droid_store_trees.specs.declared.edit.Edit.TheVariants.{Put, Delete, Insert, Remove}

-- the rows of a tree after the write
abbrev pub edited : Edit → List Row → List Row
edited (Put row) = put_row row.now
edited (Delete id) = without_rowid id
edited (Insert order entry) = insert_entry order entry.now
edited (Remove order entry) = remove_entry order entry.now

-- the write fits a tree of this shape
abbrev pub Fits : Edit → Shape → Type 0
Fits (Put row) shape = (shape ≡ Table) × IsTrue (is_int (rowid row.now))
Fits (Delete id) shape = shape ≡ Table
Fits (Insert order entry) shape = shape ≡ Index order
Fits (Remove order entry) shape = shape ≡ Index order
