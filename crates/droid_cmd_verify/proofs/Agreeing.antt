-- Where nothing is reported, all of a list and of a tree was compared, and they agree.
use Rattle.std.proofs.Common.{◌≡◌, ◌∙◌, ◌<◌, ℕ, zero, suc, List, [], ◌∷◌, length, Some, ap, subst, arith}
use Rattle.std.specs.List.{slice_get, slice_index_or}
use Rattle.std.specs.Prelude.{IsPermutation}
use Rattle.std.proofs.lemmas.List.Sorted.{Contains-permutation, IsPermutation-sym}
use Rattle.droid_lists.specs.declared.format_lists.format_change.FormatChange.{FormatChange}
use Rattle.droid_lists.specs.Listings.{IsInventory}
use Rattle.droid_frame.specs.declared.item.Item.{Item}
use Rattle.droid_terminal.specs.declared.skipped.recorder.Recorder.{Recorder}
use Rattle.droid_terminal.specs.declared.skipped.skipped_entry.SkippedEntry.{SkippedEntry}
use Rattle.droid_cmd_verify.specs.Agreements.{Agree, EachFoundIsSame, EachListedIsSame}
use Rattle.droid_cmd_verify.specs.CheckedTrees.{Compares, readable_in}
use Rattle.droid_cmd_verify.specs.Findings.{AreFindings}
use Rattle.droid_cmd_verify.specs.declared.measure.Measure.TheVariants.{Hashes}
use Rattle.droid_cmd_verify.specs.declared.tree_check.Checked.{Checked}
use Rattle.droid_cmd_verify.proofs.Places.{contains_at}
use Rattle.droid_cmd_verify.proofs.ReadableItems.{all_read}
use Rattle.droid_cmd_verify.proofs.Sameness.{each_found, each_listed, nothing}

-- ---- lists in two orders

at_place : {X : Type 0} (xs : List X) (x : X) (k : ℕ) → k < length xs → slice_index_or xs k x ≡ x → slice_get xs k ≡ Some x
at_place [] x k below is = absurd (omega (arith, below))
at_place (y ∷ xs) x zero below is = ap Some is
at_place (y ∷ xs) x (suc k) below is = at_place xs x k (omega (arith, below)) is

-- what has a place in one order has one in the other
other_place : {X : Type 0} (xs ys : List X) (place : ℕ) (x : X) → IsPermutation xs ys → slice_get xs place ≡ Some x → (k : ℕ) × (slice_get ys k ≡ Some x)
other_place xs ys place x same there =
    let has = Contains-permutation xs ys x same (contains_at xs place x there) in
    (has.0, at_place ys x has.0 has.1 has.2)

module _ (listed found sorted other : List Item) (first : IsPermutation listed sorted) (second : IsPermutation found other) where
  listed_all : EachListedIsSame sorted other → EachListedIsSame listed found
  listed_all each = λ l a here.
      let place = other_place listed sorted l a first here in
      let it = each place.0 a place.1 in
      let back = other_place other found it.0 it.1 (IsPermutation-sym found other second) it.2 in
      (back.0, it.1, back.1, it.3)

  found_all : EachFoundIsSame sorted other → EachFoundIsSame listed found
  found_all each = λ f b there.
      let place = other_place found other f b second there in
      let it = each place.0 b place.1 in
      let back = other_place sorted listed it.0 it.1 (IsPermutation-sym listed sorted first) it.2 in
      (back.0, it.1, back.1, it.3)

-- ---- what could be read is all, where nothing is unreadable

all_items : (unreadable : List SkippedEntry) (items inventory : List Item) → unreadable ≡ [] → IsInventory (readable_in unreadable items) inventory → IsPermutation items inventory
all_items unreadable items inventory none is =
    subst (λ (its : List Item). IsPermutation its inventory) (ap (λ (u : List SkippedEntry). readable_in u items) none ∙ all_read items) is.same

pub all_readable : {W : Type 0} (checked : Checked) (changes : List FormatChange) (new : Recorder W)
    → AreFindings Hashes checked.listed checked.found checked.differences.items checked.files.items new.skipped.items changes [] → new.skipped.items ≡ []
all_readable checked changes new are = (nothing Hashes checked.listed checked.found checked.differences.items checked.files.items new.skipped.items changes are).no_entry

pub agree : {W : Type 0} (listed found : List Item) (checked : Checked) (changes : List FormatChange) (old new : Recorder W) → Compares listed found checked old new
    → AreFindings Hashes checked.listed checked.found checked.differences.items checked.files.items new.skipped.items changes [] → Agree listed found
agree listed found checked changes old new compares are =
    let differences = checked.differences.items in
    let files = checked.files.items in
    let none = nothing Hashes checked.listed checked.found differences files new.skipped.items changes are in
    let first = all_items new.skipped.items listed checked.listed none.no_entry compares.listed_are in
    let second = all_items new.skipped.items found checked.found none.no_entry compares.found_are in
    record {
      each_listed =
          listed_all listed found checked.listed checked.found first second
          (each_listed checked.listed checked.found differences files new.skipped.items compares.report compares.files none);
      each_found =
          found_all listed found checked.listed checked.found first second
          (each_found checked.listed checked.found differences files new.skipped.items compares.report compares.files none);
    }
