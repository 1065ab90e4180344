-- A tree and the export of its records.
use Rattle.std.proofs.Common.{◌≡◌, ◌∙◌, Bool, true, false, List, [], ◌∷◌, ◌++◌, Result, Ok, refl, ap, subst}
use Rattle.std.specs.List.{flat_map}
use Rattle.std.specs.Prelude.{IsPermutation, if◌then◌else◌}
use Rattle.std.proofs.lemmas.List.Sorted.{IsPermutation-trans}
use Rattle.droid_export.specs.Csv.{joined, line, quoted}
use Rattle.droid_frame.specs.Filters.{is_file}
use Rattle.droid_export.specs.Rows.{Row, header}
use Rattle.droid_export.specs.Text.{chosen_rows, row_text, text}
use Rattle.droid_fixity.specs.Reports.{IsReport}
use Rattle.droid_fixity.specs.declared.difference.Difference.{Difference}
use Rattle.droid_frame.specs.declared.item.Item.{Item}
use Rattle.droid_export.specs.Profiles.{profile_of}
use Rattle.droid_lists.specs.Listings.{IsInventory, Says, of_profile}
use Rattle.droid_lists.specs.Exports.{Lists, item_of_record}
use Rattle.droid_lists.specs.Exports as exports
use Rattle.droid_lists.specs.Inventories as profile
use Rattle.droid_frame.specs.declared.filter.Filter.{Filter}
use Rattle.droid_frame.specs.declared.hash_kind.HashKind.{HashKind}
use Rattle.droid_frame.specs.declared.record.Record.{Record}
use Rattle.droid_pronom.specs.Registry.{Contents}
use Rattle.droid_cmd_verify.specs.CheckedTrees.{items_of, readable_in}
use Rattle.droid_lists.specs.ListForms.{form_of, is_profile, manifest_form}
use Rattle.droid_lists.specs.declared.list_form.ListForm.TheVariants.{Profile, Checksum}
use Rattle.droid_lists.specs.declared.list_content.UnreadList.{UnreadList}
use Rattle.droid_cmd_verify.specs.declared.tree_check.Checked.{Checked}
use Rattle.droid_cmd_verify.proofs.ReadableItems.{all_read}

-- ---- the form of an export

is_csv : (hash : HashKind) (rows : List Row) → is_profile (flat_map row_text (header hash ∷ rows)) ≡ true
unfolding quoted joined line
is_csv hash rows = refl

pub profile_form : (registry : Contents) (criteria : Filter) (hash : HashKind) (nodes : List Record) (in_bag : Bool) → form_of in_bag (text registry criteria hash nodes) ≡ Profile
unfolding text
profile_form registry criteria hash nodes in_bag =
    ap (λ (b : Bool). if b then Profile else Checksum (manifest_form in_bag (text registry criteria hash nodes))) (is_csv hash (chosen_rows registry criteria nodes))

-- ---- its items are those of the records

one_item : (file : Bool) (shown : Record) → (if file then item_of_record shown ∷ [] else if false then [] else item_of_record shown ∷ []) ≡ item_of_record shown ∷ []
one_item true shown = refl
one_item false shown = refl

same_items : (shown : List Record) → items_of false shown ≡ exports.items_of shown
same_items [] = refl
same_items (next ∷ shown) = ap (λ (its : List Item). its ++ items_of false shown) (one_item (is_file next.kind) next) ∙ ap (λ (its : List Item). item_of_record next ∷ its) (same_items shown)

one_list : (result : Result (List Item) UnreadList) (items others : List Item) → result ≡ Ok items → result ≡ Ok others → items ≡ others
one_list result items others is also = cc

-- the items of both sides are those of the records, each in order of path
pub record AreOfRecords (shown : List Record) (checked : Checked) : Type 0 where
  pub listed_are : IsPermutation (exports.items_of shown) checked.listed
  pub found_are : IsPermutation (exports.items_of shown) checked.found

pub of_records : (bytes : List _) (formats : Bool) (shown : List Record) (listed : List Item) (checked : Checked) → Lists bytes (exports.items_of shown) → Says Profile formats bytes (Ok listed)
    → IsInventory (readable_in [] listed) checked.listed → IsInventory (readable_in [] (items_of false shown)) checked.found → AreOfRecords shown checked
of_records bytes formats shown listed checked lists says readable found =
    let items = exports.items_of shown in
    let comes = says lists.0 lists.1 in
    let read : comes.0 ≡ items = one_list (of_profile (profile_of formats lists.0)) comes.0 items comes.1 (ap of_profile (lists.2 formats)) in
    let first : IsPermutation items listed = subst (λ (its : List Item). IsPermutation its listed) read comes.2.same in
    let second : IsPermutation listed checked.listed = subst (λ (its : List Item). IsPermutation its checked.listed) (all_read listed) readable.same in
    record {
      listed_are = IsPermutation-trans items listed checked.listed first second;
      found_are = subst (λ (its : List Item). IsPermutation its checked.found) (all_read (items_of false shown) ∙ same_items shown) found.same;
    }

module _ (agree : (items listed found : List Item) (differences : List Difference) → profile.IsInventory items listed → profile.IsInventory items found → IsReport listed found differences → differences ≡ []) where
  pub no_difference : (bytes : List _) (formats : Bool) (shown : List Record) (listed : List Item) (checked : Checked) → Lists bytes (exports.items_of shown) → Says Profile formats bytes (Ok listed)
      → IsInventory (readable_in [] listed) checked.listed → IsInventory (readable_in [] (items_of false shown)) checked.found → IsReport checked.listed checked.found checked.differences.items → checked.differences.items ≡ []
  no_difference bytes formats shown listed checked lists says readable found report =
      let items = exports.items_of shown in
      let are = of_records bytes formats shown listed checked lists says readable found in
      let first : profile.IsInventory items checked.listed = record { same = are.listed_are; in_order = readable.in_order } in
      let second : profile.IsInventory items checked.found = record { same = are.found_are; in_order = found.in_order } in
      agree items checked.listed checked.found checked.differences.items first second report
