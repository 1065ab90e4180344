-- The digests of a list are of one kind.
use Rattle.std.proofs.Common.{◌≡◌, ◌∙◌, ℕ, ◌+◌, ◌==◌, Bool, true, false, cond, List, [], ◌∷◌, ◌++◌, Result, Ok, Err, refl, sym, ap, subst}
use Rattle.std.specs.Prelude.{IsTrue}
use Rattle.std.specs.List.{AllByRecursion}
use Rattle.std.specs.Result.{result_unwrap_or}
use Rattle.std.proofs.lemmas.Bool.{eq-eqb}
use Rattle.droid_frame.specs.Hashes.{hash_kind_number, hash_value_kind}
use Rattle.droid_frame.specs.declared.item.Item.{Item}
use Rattle.droid_fixity.specs.Lines.{meaning, without_return}
use Rattle.droid_fixity.specs.Lists.{HaveOneKind, after, is_alike, items_from, items_of, same_kind, some_items, taken}
use Rattle.droid_fixity.specs.Texts.{lines_in}
use Rattle.droid_fixity.specs.declared.checksum_lists.form.ManifestForm.{ManifestForm}
use Rattle.droid_fixity.specs.declared.checksum_lists.list_fault.ManifestFault.{ManifestFault}
use Rattle.droid_fixity.specs.declared.checksum_lists.list_fault.ManifestFault.TheVariants as faults
use Rattle.droid_fixity.specs.declared.checksum_lists.line_content.Meaning.{Meaning}
use Rattle.droid_fixity.specs.declared.checksum_lists.line_content.Meaning.TheVariants as meanings

each_more : (first : Item) (items : List Item) (item : Item) → AllByRecursion (λ one. IsTrue (same_kind first.hash one.hash)) items → same_kind first.hash item.hash ≡ true
    → AllByRecursion (λ one. IsTrue (same_kind first.hash one.hash)) (items ++ item ∷ [])
each_more first [] item each alike = (alike, tt)
each_more first (one ∷ items) item each alike = (each.0, each_more first items item each.1 alike)

one_more : (items : List Item) (item : Item) → HaveOneKind items → is_alike items item.hash ≡ true → HaveOneKind (items ++ item ∷ [])
one_more [] item each alike = (eq-eqb (hash_kind_number (hash_value_kind item.hash)) (hash_kind_number (hash_value_kind item.hash)) refl, tt)
one_more (first ∷ items) item each alike = each_more first (first ∷ items) item each alike

file_kept : (test : Bool) (number : ℕ) (items more : List Item) (item : Item) → is_alike items item.hash ≡ test → HaveOneKind items
    → cond test (Ok (items ++ item ∷ [])) (Err (faults.Digest number)) ≡ Ok more → HaveOneKind more
file_kept true number items more item alike each is = subst HaveOneKind (ap (λ (r : Result (List Item) ManifestFault). result_unwrap_or r []) is) (one_more items item each alike)
file_kept false number items more item alike each is = absurd cc

kept : (number : ℕ) (items more : List Item) (what : Meaning) → HaveOneKind items → taken number items what ≡ Ok more → HaveOneKind more
kept number items more meanings.Blank each is = subst HaveOneKind (ap (λ (r : Result (List Item) ManifestFault). result_unwrap_or r []) is) each
kept number items more (meanings.File item) each is = file_kept (is_alike items item.hash) number items more item refl each is
kept number items more meanings.Malformed each is = absurd cc
kept number items more meanings.Misplaced each is = absurd cc

onward : (first : Result (List Item) ManifestFault) (more : List Item → Result (List Item) ManifestFault) (all : List Item) → after first more ≡ Ok all → (next : List Item) × ((first ≡ Ok next) × (more next ≡ Ok all))
onward (Ok next) more all is = (next, (refl, is))
onward (Err fault) more all is = absurd cc

kind_from : (form : ManifestForm) (number : ℕ) (items : List Item) (lines : List (List ℕ)) (all : List Item) → HaveOneKind items → items_from form number items lines ≡ Ok all → HaveOneKind all
kind_from form number items [] all each is = subst HaveOneKind (ap (λ (r : Result (List Item) ManifestFault). result_unwrap_or r []) is) each
kind_from form number items (line ∷ lines) all each is =
    let what = meaning form (without_return line) in
    let step = onward (taken number items what) (λ more. items_from form (number + 1) more lines) all is in
    kind_from form (number + 1) step.0 lines all (kept number items step.0 what each step.1.0) step.1.1

some_is : (found : Result (List Item) ManifestFault) (items : List Item) → some_items found ≡ Ok items → found ≡ Ok items
some_is (Ok []) items is = absurd cc
some_is (Ok (first ∷ rest)) items is = is
some_is (Err fault) items is = absurd cc

pub one_kind : (form : ManifestForm) (text : List ℕ) (items : List Item) → items_of form text ≡ Ok items → HaveOneKind items
one_kind form text items is = kind_from form 1 [] (lines_in form text) items tt (some_is (items_from form 1 [] (lines_in form text)) items is)
