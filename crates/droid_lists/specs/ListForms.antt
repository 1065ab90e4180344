-- Which form a list of files has (this project's own): it is seen from its first line.
use Rattle.std.specs.Prelude.{ℕ, ◌==◌, ◌||◌, Bool, true, false, not, List, take, length, Option, Some, None, Result, Ok}
use Rattle.std.specs.Prelude.{Err, codes, if◌then◌else◌}
use Rattle.std.specs.List.{position}
use Rattle.std.specs.Option.{is_some}
use Rattle.droid_frame.specs.declared.item.Item.{Item}
use Rattle.droid_fixity.specs.Lists.{items_of}
use Rattle.droid_fixity.specs.FilePaths.{behind}
use Rattle.droid_fixity.specs.Texts.{without_mark}
use Rattle.droid_fixity.specs.declared.checksum_lists.form.ManifestForm.{ManifestForm}
use Rattle.droid_fixity.specs.declared.checksum_lists.form.ManifestForm.TheVariants.{Checksums, Bag}
use Rattle.droid_fixity.specs.declared.checksum_lists.list_fault.ManifestFault.{ManifestFault}
use Rattle.droid_lists.specs.declared.list_form.ListForm.{ListForm}
use Rattle.droid_lists.specs.declared.list_form.ListForm.TheVariants.{Profile, Checksum}

-- whether a text begins with these bytes
abbrev pub begins : List ℕ → List ℕ → Bool
begins front text = is_some (behind front text)

-- a profile's CSV begins with the name of its first column
abbrev pub is_profile : List ℕ → Bool
is_profile text = begins (codes "\"ID\",") (without_mark text) || begins (codes "ID,") (without_mark text)

-- what stands in front of a place, or all of it
abbrev pub front_by : List ℕ → Option ℕ → List ℕ
front_by text None = text
front_by text (Some place) = take place text

-- the first line, without what ends it; a line of a bag may end in a carriage return
abbrev pub first_line : List ℕ → List ℕ
first_line text = front_by text (position (λ b. (b == 10) || (b == 13)) text)

-- whether there are items
abbrev pub has_items : Result (List Item) ManifestFault → Bool
has_items (Ok items) = not (length items == 0)
has_items (Err fault) = false

-- the form, by whether a list is that of a bag
abbrev pub form_by : Bool → ManifestForm
form_by true = Bag
form_by false = Checksums

-- In a bag, a list whose first line names a file below the folder `data` is the manifest of the bag.
abbrev pub manifest_form : Bool → List ℕ → ManifestForm
manifest_form true text = form_by (has_items (items_of Bag (first_line text)))
manifest_form false text = Checksums

-- the form of a text
abbrev pub form_of : Bool → List ℕ → ListForm
form_of in_bag text = if is_profile text then Profile else Checksum (manifest_form in_bag text)

-- lists of checksums name files alone
abbrev pub names_files_alone : ListForm → Bool
names_files_alone Profile = false
names_files_alone (Checksum form) = true
