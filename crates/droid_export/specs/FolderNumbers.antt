-- Which folder has which number, as the rows of a list say (this project's own).
use Rattle.std.specs.Prelude.{◌≡◌, ℕ, ◌==◌, Bool, true, not, List, [], ◌∷◌, ◌++◌, take, Option, Some, None}
use Rattle.std.specs.Prelude.{if◌then◌else◌}
use Rattle.std.specs.List.{Contains, IsDistinct, list_all, list_any}
use Rattle.std.specs.Str.{bytes_eq}
use Rattle.droid_frame.specs.Items.{same_truth}
use Rattle.droid_frame.specs.Filters.{is_file}
use Rattle.droid_frame.specs.declared.item.Item.{Item}
use Rattle.droid_export.specs.declared.column.Column.{Column}
use Rattle.droid_export.specs.declared.column.Column.TheVariants as columns
use Rattle.droid_export.specs.declared.reading.fault.ListFault.{ListFault}
use Rattle.droid_export.specs.declared.reading.fault.ListFault.TheVariants as faults
use Rattle.droid_export.specs.declared.reading.tag.Tag.{Tag}

-- A folder has this number: its own row says so by ID, each row below it by PARENT_ID.
pub record Saying : Type 0 where
  pub number : ℕ
  pub path : List ℕ

-- one number is that of one folder, and one folder has one number
abbrev pub agree : Saying → Saying → Bool
agree x y = same_truth (x.number == y.number) (bytes_eq x.path y.path)

-- what the row of a folder says of its own number
abbrev pub own_sayings : Item → Tag → List Saying
own_sayings item tag = if is_file item.kind then [] else (record { number = tag.id; path = item.path }) ∷ []

-- what a row says of the number of the folder above
abbrev pub above_sayings : Item → Tag → List Saying
above_sayings item tag =
    if tag.parent == 0 then [] else (record { number = tag.parent; path = take tag.above item.path }) ∷ []

-- whether sayings agree with all that was said
abbrev pub fit : List Saying → List Saying → Bool
fit said sayings = list_all (λ x. list_all (agree x) said) sayings

-- the first column of a row that contradicts what the rows before it say; no two rows have one ID
abbrev pub column_against : List ℕ → List Saying → Item → Tag → Option Column
column_against ids said item tag =
    if list_any (λ id. id == tag.id) ids then Some columns.Id
    else if not (fit said (own_sayings item tag)) then Some columns.Id
    else if not (fit (said ++ own_sayings item tag) (above_sayings item tag)) then Some columns.ParentId else None

-- the contradiction of a row, or else one of a later row
abbrev pub or_later : ℕ → Option Column → Option ListFault → Option ListFault
or_later number (Some column) later = Some (faults.Contradiction number column)
or_later number None later = later

-- the first row that contradicts rows before it
abbrev pub contradiction_from : List ℕ → List Saying → List Item → List Tag → Option ListFault
contradiction_from ids said [] tags = None
contradiction_from ids said (item ∷ items) [] = None
contradiction_from ids said (item ∷ items) (tag ∷ tags) =
    or_later tag.number (column_against ids said item tag)
    (contradiction_from (ids ++ tag.id ∷ []) ((said ++ own_sayings item tag) ++ above_sayings item tag) items tags)

-- the first row that contradicts rows before it
abbrev pub contradiction : List Item → List Tag → Option ListFault
contradiction items tags = contradiction_from [] [] items tags

-- ---- rows that agree

-- the IDs of all rows, and all that they say of folders' numbers
abbrev pub ids_in : List Item → List Tag → List ℕ
ids_in [] tags = []
ids_in (item ∷ items) [] = []
ids_in (item ∷ items) (tag ∷ tags) = tag.id ∷ ids_in items tags

-- all that rows say of folders' numbers, in order
abbrev pub sayings_in : List Item → List Tag → List Saying
sayings_in [] tags = []
sayings_in (item ∷ items) [] = []
sayings_in (item ∷ items) (tag ∷ tags) = (own_sayings item tag ++ above_sayings item tag) ++ sayings_in items tags

-- no two rows have one ID, and all that they say of folders' numbers agrees
pub record AreConsistent (items : List Item) (tags : List Tag) : Type 0 where
  pub ids : IsDistinct (λ a b. a == b) (ids_in items tags)
  pub folders : (x y : Saying) → Contains (sayings_in items tags) x → Contains (sayings_in items tags) y
      → agree x y ≡ true
