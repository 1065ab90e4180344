-- The items and formats that are kept of the records of a tree (this project's own).
use Rattle.std.specs.Prelude.{◌≡◌, Bool, List, [], ◌∷◌, ◌++◌, ◌&&◌, if◌then◌else◌}
use Rattle.droid_frame.specs.Filters.{is_file}
use Rattle.droid_frame.specs.declared.record.Record.{Record}
use Rattle.droid_lists.specs.Formats.{file_of}
use Rattle.droid_lists.specs.declared.format_lists.file_formats.FileFormats.{FileFormats}
use Rattle.droid_frame.specs.declared.item.Item.{Item}
use Rattle.droid_lists.specs.Exports.{item_of_record}
use Rattle.droid_profile.specs.declared.recipient.RecipientFault.{RecipientFault}
use Rattle.droid_profile.specs.declared.recipient.RecipientFault.TheVariants as recipient_faults
use Rattle.droid_cmd_verify.specs.declared.item_keeper.ItemKeeper.{ItemKeeper}

-- the item of a record; if files alone are kept, a folder has none
abbrev pub items_by : Bool → Record → List Item
items_by files_only shown =
    if is_file shown.kind then item_of_record shown ∷ [] else if files_only then [] else item_of_record shown ∷ []

-- the formats of a record, if it is a file's and formats are kept
abbrev pub formats_by : Bool → Record → List FileFormats
formats_by identify shown = if identify && is_file shown.kind then file_of shown.path shown.puids ∷ [] else []

-- the record's item is kept behind the others, and so are its formats
abbrev pub Keeps : ItemKeeper → Record → ItemKeeper → Type 0
Keeps old next new =
    (new.files_only ≡ old.files_only) × (new.items.items ≡ old.items.items ++ items_by old.files_only next)
    × (new.identify ≡ old.identify) × (new.formats.items ≡ old.formats.items ++ formats_by old.identify next)

-- out of memory: no item more is kept
abbrev pub KeepsNot : ItemKeeper → Record → RecipientFault → ItemKeeper → Type 0
KeepsNot old next fault new =
    (fault ≡ recipient_faults.Memory) × (new.files_only ≡ old.files_only) × (new.items.items ≡ old.items.items)
