-- The types of what a row says. droid_lists keeps them to itself, so they are named by what its definitions take and
-- return.
use Rattle.std.proofs.Common.{List, Result}
use Rattle.droid_export.specs.Profiles.{entry_of, no_rows, spot_of, tag_of}

abbrev item_type : {A : Type 0} → List A → Type 0
item_type {A} items = A

abbrev argument_type : {A B C : Type 0} → (A → B → C) → Type 0
argument_type {A} {B} {C} f = B

abbrev found_type : {A B E : Type 0} → (A → Result B E) → Type 0
found_type {A} {B} {E} f = B

abbrev fault_type : {A B C E : Type 0} → (A → B → Result C E) → Type 0
fault_type {A} {B} {C} {E} f = E

-- where an item is
abbrev pub Spot : Type 0
Spot = found_type spot_of

-- what a row says
abbrev pub Entry : Type 0
Entry = argument_type tag_of

-- what the first row of an item says beside the item
abbrev pub Tag : Type 0
Tag = item_type no_rows.tags

-- what is wrong with a row
abbrev pub RowFault : Type 0
RowFault = fault_type entry_of
