-- What a list says, in order of path (this project's own).
use Rattle.std.specs.Prelude.{◌≡◌, ℕ, Bool, true, false, List, [], ◌∷◌, Result, Ok, Err, IsPermutation, map, ⊤}
use Rattle.csv.specs.Reading.{AreRecords, default_config, strip_bom}
use Rattle.csv.specs.declared.parser.State.TheVariants as st
use Rattle.droid_frame.specs.Hashes.{hash_value_kind}
use Rattle.droid_frame.specs.declared.hash_kind.HashKind.{HashKind}
use Rattle.droid_frame.specs.declared.hash_kind.HashKind.TheVariants as kinds
use Rattle.droid_fixity.specs.Inventories.{AreInOrder, IsTwice}
use Rattle.droid_frame.specs.declared.item.Item.{Item}
use Rattle.droid_export.specs.FormatRows.{HasRows}
use Rattle.droid_export.specs.Profiles.{profile_of}
use Rattle.droid_export.specs.declared.reading.format_row.FormatRow.{FormatRow}
use Rattle.droid_export.specs.declared.reading.fault.ListFault.{ListFault}
use Rattle.droid_export.specs.declared.reading.fault.ListFault.TheVariants as list
use Rattle.droid_fixity.specs.Lists.{items_of}
use Rattle.droid_fixity.specs.declared.checksum_lists.list_fault.ManifestFault.{ManifestFault}
use Rattle.droid_fixity.specs.declared.checksum_lists.list_fault.ManifestFault.TheVariants as manifest
use Rattle.droid_lists.specs.ListForms.{form_of}
use Rattle.droid_lists.specs.declared.list_form.ListForm.{ListForm}
use Rattle.droid_lists.specs.declared.list_form.ListForm.TheVariants.{Profile, Checksum}
use Rattle.droid_lists.specs.declared.list_content.Listed.{Listed}
use Rattle.droid_lists.specs.declared.list_content.UnreadList.{UnreadList}
use Rattle.droid_lists.specs.declared.list_content.UnreadList.TheVariants as faults

-- these items, no path twice, in the order of their paths
pub record IsInventory (items inventory : List Item) : Type 0 where
  pub same : IsPermutation items inventory
  pub in_order : AreInOrder (map (λ item. item.path) inventory)

-- what a profile's CSV says, with its fault as one of a list
abbrev pub of_profile : Result (List Item) ListFault → Result (List Item) UnreadList
of_profile (Ok items) = Ok items
of_profile (Err fault) = Err (faults.Profile fault)

-- what a list of checksums says, with its fault as one of a list
abbrev pub of_manifest : Result (List Item) ManifestFault → Result (List Item) UnreadList
of_manifest (Ok items) = Ok items
of_manifest (Err fault) = Err (faults.Manifest fault)

-- the fault of a profile's CSV, as it is returned: memory is a fault of its own
abbrev pub profile_fault : ListFault → UnreadList
profile_fault list.Memory = faults.Memory
profile_fault list.Header = faults.Profile list.Header
profile_fault (list.Missing column) = faults.Profile (list.Missing column)
profile_fault (list.Fields number) = faults.Profile (list.Fields number)
profile_fault (list.Column number column hash) = faults.Profile (list.Column number column hash)
profile_fault (list.Contradiction number column) = faults.Profile (list.Contradiction number column)

-- the fault of a list of checksums, as it is returned: memory is a fault of its own
abbrev pub manifest_fault : ManifestFault → UnreadList
manifest_fault manifest.Memory = faults.Memory
manifest_fault manifest.Empty = faults.Manifest manifest.Empty
manifest_fault (manifest.Line line) = faults.Manifest (manifest.Line line)
manifest_fault (manifest.Path line) = faults.Manifest (manifest.Path line)
manifest_fault (manifest.Digest line) = faults.Manifest (manifest.Digest line)

-- what comes of the items of a list: their inventory, or the first fault
abbrev pub Comes : Result (List Item) UnreadList → Result (List Item) UnreadList → Type 0
Comes listed (Ok inventory) = (items : List Item) × (listed ≡ Ok items) × IsInventory items inventory
Comes listed (Err faults.Memory) = ⊤
Comes listed (Err (faults.Profile fault)) = listed ≡ Err (faults.Profile fault)
Comes listed (Err (faults.Manifest fault)) = listed ≡ Err (faults.Manifest fault)
Comes listed (Err (faults.Twice same)) = (items : List Item) × (listed ≡ Ok items) × IsTwice items same.path

-- a text of this form says that; a CSV is read as records, of whose files the formats may be asked for
abbrev pub Says : ListForm → Bool → List ℕ → Result (List Item) UnreadList → Type 0
Says Profile formats text result =
    (records : List (List (List ℕ))) → AreRecords default_config st.StartRecord (strip_bom text) records
    → Comes (of_profile (profile_of formats records)) result
Says (Checksum form) formats text result = Comes (of_manifest (items_of form text)) result

-- the formats that a list of this form gives files, where they are asked for; one of checksums gives none
abbrev pub HasFormats : Bool → ListForm → List ℕ → List FormatRow → Type 0
HasFormats true Profile text rows = HasRows text rows
HasFormats true (Checksum form) text rows = ⊤
HasFormats false form text rows = ⊤

-- the first part of what was read
abbrev pub first_in : {A B E : Type 0} → Result (A × B) E → Result A E
first_in (Ok read) = Ok read.0
first_in (Err fault) = Err fault

-- this kind of hash, or a later one if this is none
abbrev pub or_later : HashKind → HashKind → HashKind
or_later kinds.Nothing later = later
or_later kinds.Md5 later = kinds.Md5
or_later kinds.Sha256 later = kinds.Sha256

-- the kind of the first hash, or that there is none
abbrev pub hash_in : List Item → HashKind
hash_in [] = kinds.Nothing
hash_in (item ∷ items) = or_later (hash_value_kind item.hash) (hash_in items)

-- the list of this form: its items in order of path, and the kind of their hashes
abbrev pub ListSaysBy : ListForm → Bool → List ℕ → Result Listed UnreadList → Type 0
ListSaysBy form formats text (Ok listed) =
    (listed.form ≡ form) × Says form formats text (Ok listed.items) × (listed.hash ≡ hash_in listed.items)
ListSaysBy form formats text (Err fault) = Says form formats text (Err fault)

-- the same of a text, whose form is seen from its first line
abbrev pub ListSays : Bool → Bool → List ℕ → Result Listed UnreadList → Type 0
ListSays in_bag formats text result = ListSaysBy (form_of in_bag text) formats text result
