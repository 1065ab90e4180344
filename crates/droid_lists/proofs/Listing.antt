-- What a list says, by what the calls that read it promise.
use Rattle.std.proofs.Common.{◌≡◌, ◌∙◌, ◌≢◌, ◌+◌, ◌<◌, ◌≤◌, ℕ, Bool, true, false, List, Result, Ok, Err, drop, length, get_or, sym, ap, subst}
use Rattle.std.proofs.lemmas.List.{at_drop_all, drop_more}
use Rattle.droid_frame.specs.Hashes.{hash_value_kind}
use Rattle.droid_frame.specs.declared.hash_kind.HashKind.{HashKind}
use Rattle.droid_frame.specs.declared.hash_kind.HashKind.TheVariants as kinds
use Rattle.droid_frame.specs.declared.item.Item.{Item}
use Rattle.csv.specs.Reading.{AreRecords, default_config, strip_bom}
use Rattle.csv.specs.declared.parser.State.TheVariants as st
use Rattle.droid_fixity.specs.declared.checksum_lists.form.ManifestForm.{ManifestForm}
use Rattle.droid_export.specs.FormatRows.{format_rows, rows_if}
use Rattle.droid_export.specs.declared.reading.format_row.FormatRow.{FormatRow}
use Rattle.droid_export.specs.declared.reading.fault.ListFault.{ListFault}
use Rattle.droid_export.specs.declared.reading.fault.ListFault.TheVariants as list
use Rattle.droid_fixity.specs.declared.checksum_lists.list_fault.ManifestFault.{ManifestFault}
use Rattle.droid_fixity.specs.declared.checksum_lists.list_fault.ManifestFault.TheVariants as manifest
use Rattle.droid_lists.specs.Listings.{Comes, HasFormats, Says, hash_in, manifest_fault, of_manifest, of_profile, or_later, profile_fault}
use Rattle.droid_lists.specs.declared.list_form.ListForm.{ListForm}
use Rattle.droid_lists.specs.declared.list_form.ListForm.TheVariants.{Profile, Checksum}
use Rattle.droid_lists.specs.declared.list_content.UnreadList.{UnreadList}
use Rattle.droid_lists.specs.declared.list_content.UnreadList.TheVariants as faults

-- ---- items that were read

pub profile_comes : (expected : Result (List Item) ListFault) (items : List Item) (result : Result (List Item) UnreadList) → expected ≡ Ok items → Comes (Ok items) result → Comes (of_profile expected) result
profile_comes expected items result is comes = subst (λ (e : Result (List Item) ListFault). Comes (of_profile e) result) (sym is) comes

pub manifest_comes : (expected : Result (List Item) ManifestFault) (items : List Item) (result : Result (List Item) UnreadList) → expected ≡ Ok items → Comes (Ok items) result → Comes (of_manifest expected) result
manifest_comes expected items result is comes = subst (λ (e : Result (List Item) ManifestFault). Comes (of_manifest e) result) (sym is) comes

-- ---- faults

pub profile_fails : (expected : Result (List Item) ListFault) (fault : ListFault) → (fault ≢ list.Memory → expected ≡ Err fault) → Comes (of_profile expected) (Err (profile_fault fault))
profile_fails expected list.Memory gives = tt
profile_fails expected list.Header gives = ap of_profile (gives (λ e. cc e))
profile_fails expected (list.Missing column) gives = ap of_profile (gives (λ e. cc e))
profile_fails expected (list.Fields number) gives = ap of_profile (gives (λ e. cc e))
profile_fails expected (list.Column number column hash) gives = ap of_profile (gives (λ e. cc e))
profile_fails expected (list.Contradiction number column) gives = ap of_profile (gives (λ e. cc e))

pub manifest_fails : (expected : Result (List Item) ManifestFault) (fault : ManifestFault) → (fault ≢ manifest.Memory → expected ≡ Err fault) → Comes (of_manifest expected) (Err (manifest_fault fault))
manifest_fails expected manifest.Memory gives = tt
manifest_fails expected manifest.Empty gives = ap of_manifest (gives (λ e. cc e))
manifest_fails expected (manifest.Line line) gives = ap of_manifest (gives (λ e. cc e))
manifest_fails expected (manifest.Path line) gives = ap of_manifest (gives (λ e. cc e))
manifest_fails expected (manifest.Digest line) gives = ap of_manifest (gives (λ e. cc e))

-- whatever the form, memory may run out
pub memory_says : (form : ListForm) (formats : Bool) (text : List ℕ) → Says form formats text (Err faults.Memory)
memory_says Profile formats text = λ records are. tt
memory_says (Checksum form) formats text = tt

-- ---- formats

pub has_formats : (formats : Bool) (text : List ℕ) (rows : List FormatRow)
    → ((records : List (List (List ℕ))) → AreRecords default_config st.StartRecord (strip_bom text) records → rows ≡ rows_if formats (format_rows records))
    → HasFormats formats Profile text rows
has_formats true text rows are = are
has_formats false text rows are = tt

pub no_formats : (formats : Bool) (form : ManifestForm) (text : List ℕ) (rows : List FormatRow) → HasFormats formats (Checksum form) text rows
no_formats true form text rows = tt
no_formats false form text rows = tt

-- ---- the first hash

-- an item without a hash in front
pub no_hash : (items : List Item) (i : ℕ) (item : Item) → i < length items → item ≡ get_or items i item → hash_value_kind item.hash ≡ kinds.Nothing
    → hash_in (drop i items) ≡ hash_in items → hash_in (drop (i + 1) items) ≡ hash_in items
no_hash items i item within is none same =
    sym (ap hash_in (drop_more items i item within)
    ∙ (ap (λ (it : Item). or_later (hash_value_kind it.hash) (hash_in (drop (i + 1) items))) (sym is)
    ∙ ap (λ (k : HashKind). or_later k (hash_in (drop (i + 1) items))) none)) ∙ same

-- an item with a hash in front
pub this_hash : (items : List Item) (i : ℕ) (item : Item) (kind : HashKind) → i < length items → item ≡ get_or items i item → hash_value_kind item.hash ≡ kind
    → or_later kind (hash_in (drop (i + 1) items)) ≡ kind → hash_in (drop i items) ≡ hash_in items → kind ≡ hash_in items
this_hash items i item kind within is its stays same =
    sym (ap hash_in (drop_more items i item within)
    ∙ (ap (λ (it : Item). or_later (hash_value_kind it.hash) (hash_in (drop (i + 1) items))) (sym is)
    ∙ (ap (λ (k : HashKind). or_later k (hash_in (drop (i + 1) items))) its ∙ stays))) ∙ same

-- no item is left
pub none_left : (items : List Item) (i : ℕ) → length items ≤ i → hash_in (drop i items) ≡ hash_in items → kinds.Nothing ≡ hash_in items
none_left items i all same = sym (at_drop_all hash_in items i all) ∙ same
