-- What a list of checksums says.
use Rattle.std.specs.Prelude.{◌≡◌, ◌≢◌, ℕ, ◌+◌, ◌==◌, Bool, true, List, [], ◌∷◌, ◌++◌, Vec, Result, Ok, Err, IsTrue}
use Rattle.std.specs.Prelude.{if◌then◌else◌}
use Rattle.std.specs.List.{AllByRecursion}
use Rattle.std.specs.declared.alloc.Global.{Global}
use Rattle.droid_frame.specs.Hashes.{hash_kind_number, hash_value_kind}
use Rattle.droid_frame.specs.declared.hash_kind.HashKind.{HashKind}
use Rattle.droid_frame.specs.declared.hash_kind.HashKind.TheVariants as kinds
use Rattle.droid_frame.specs.declared.hash_value.HashValue.{HashValue}
use Rattle.droid_frame.specs.declared.item.Item.{Item}
use Rattle.droid_fixity.specs.Lines.{meaning, without_return}
use Rattle.droid_fixity.specs.Texts.{lines_in}
use Rattle.droid_fixity.specs.declared.checksum_lists.form.ManifestForm.{ManifestForm}
use Rattle.droid_fixity.specs.declared.checksum_lists.list_fault.ManifestFault.{ManifestFault}
use Rattle.droid_fixity.specs.declared.checksum_lists.list_fault.ManifestFault.TheVariants as faults
use Rattle.droid_fixity.specs.declared.checksum_lists.line_content.Meaning.{Meaning}
use Rattle.droid_fixity.specs.declared.checksum_lists.line_content.Meaning.TheVariants as meanings

-- whether two hashes are of one kind
abbrev pub same_kind : HashValue → HashValue → Bool
same_kind one other = hash_kind_number (hash_value_kind one) == hash_kind_number (hash_value_kind other)

-- whether a hash is of the kind of those before it, which are of one kind
abbrev pub is_alike : List Item → HashValue → Bool
is_alike [] hash = true
is_alike (item ∷ items) hash = same_kind item.hash hash

-- hashes of one kind: each is of the kind of the first
abbrev pub HaveOneKind : List Item → Type 0
HaveOneKind items = AllByRecursion (λ item. IsTrue (is_alike items item.hash)) items

-- the items with that of one more line, by its number
abbrev pub taken_file : ℕ → List Item → Item → Result (List Item) ManifestFault
taken_file number items item = if is_alike items item.hash then Ok (items ++ item ∷ []) else Err (faults.Digest number)

-- the items with what one more line says
abbrev pub taken : ℕ → List Item → Meaning → Result (List Item) ManifestFault
taken number items meanings.Blank = Ok items
taken number items (meanings.File item) = taken_file number items item
taken number items meanings.Malformed = Err (faults.Line number)
taken number items meanings.Misplaced = Err (faults.Path number)

-- what follows, unless there was a fault
abbrev pub after : Result (List Item) ManifestFault → (List Item → Result (List Item) ManifestFault)
    → Result (List Item) ManifestFault
after (Ok items) more = more items
after (Err fault) more = Err fault

-- what comes of the lines from a number on, behind these items: all items, or the first fault
abbrev pub items_from : ManifestForm → ℕ → List Item → List (List ℕ) → Result (List Item) ManifestFault
items_from form number items [] = Ok items
items_from form number items (line ∷ lines) =
    after (taken number items (meaning form (without_return line))) (λ more. items_from form (number + 1) more lines)

-- a list names a file
abbrev pub some_items : Result (List Item) ManifestFault → Result (List Item) ManifestFault
some_items (Ok []) = Err faults.Empty
some_items (Ok (item ∷ items)) = Ok (item ∷ items)
some_items (Err fault) = Err fault

-- the items of a text, or the first fault
abbrev pub items_of : ManifestForm → List ℕ → Result (List Item) ManifestFault
items_of form text = some_items (items_from form 1 [] (lines_in form text))

-- a call gave what was expected, unless memory ran out
abbrev pub Gives : Result (Vec Item Global) ManifestFault → Result (List Item) ManifestFault → Type 0
Gives (Ok items) expected = expected ≡ Ok items.items
Gives (Err fault) expected = fault ≢ faults.Memory → expected ≡ Err fault

-- the same of a call that adds to items
abbrev pub Leaves : Result (Unit {0}) ManifestFault → List Item → Result (List Item) ManifestFault → Type 0
Leaves (Ok done) new expected = expected ≡ Ok new
Leaves (Err fault) new expected = fault ≢ faults.Memory → expected ≡ Err fault
