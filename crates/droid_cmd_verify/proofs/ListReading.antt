-- What comes of a text that is read as a list, case by case.
use Rattle.std.proofs.Common.{◌≡◌, ◌∙◌, ◌&&◌, ℕ, Bool, true, false, List, Some, None, Result, Ok, Err, Vec, Global, sym, ap, subst}
use Rattle.std.specs.Prelude.{if◌then◌else◌}
use Rattle.droid_lists.specs.ListForms.{form_of, names_files_alone}
use Rattle.droid_lists.specs.Listings.{HasFormats, ListSays}
use Rattle.droid_cmd_verify.specs.declared.measure.Measure.{Measure}
use Rattle.droid_export.specs.declared.reading.format_row.FormatRow.{FormatRow}
use Rattle.droid_lists.specs.declared.list_form.ListForm.{ListForm}
use Rattle.droid_lists.specs.declared.list_form.ListForm.TheVariants.{Profile, Checksum}
use Rattle.droid_lists.specs.declared.list_content.Listed.{Listed}
use Rattle.droid_lists.specs.declared.list_content.UnreadList.{UnreadList}
use Rattle.droid_lists.specs.declared.list_content.UnreadList.TheVariants as unread
use Rattle.droid_cmd_verify.specs.Lists.{AreRows, GivesComparedList, IsComparedList, may_measure}
use Rattle.droid_cmd_verify.specs.VerifyEndings.{unlisted}
use Rattle.droid_cmd_verify.specs.declared.lists.ComparedList.{ComparedList}
use Rattle.droid_cmd_verify.specs.declared.verify_ending.VerifyEnding.{VerifyEnding}
use Rattle.droid_cmd_verify.specs.declared.verify_ending.VerifyEnding.TheVariants.{Same, Differing, NoFolder, Unopened, NoList, HasHashes, NoFormats, NoMemory, Numbers, Twice, Unwritten}

rows_are : (identify : Bool) (form : ListForm) (text : List ℕ) (rows : Vec FormatRow Global) → (identify && names_files_alone form) ≡ false → HasFormats identify form text rows.items
    → AreRows identify text (if identify then Some rows else None)
rows_are true Profile text rows fits has = has
rows_are true (Checksum form) text rows fits has = cc
rows_are false form text rows fits has = tt

module _ (in_bag : Bool) (how : Measure) (identify : Bool) (text : List ℕ) where
  pub says_by : (listed : Listed) (rows : Vec FormatRow Global) (result : Result ComparedList VerifyEnding) → ListSays in_bag identify text (Ok listed) → HasFormats identify (form_of in_bag text) text rows.items
      → may_measure how listed.hash ≡ true → GivesComparedList how identify listed rows result → IsComparedList in_bag how identify text result
  says_by listed rows (Ok lists) says has may gives =
      let fits : (identify && names_files_alone (form_of in_bag text)) ≡ false = ap (λ (form : ListForm). identify && names_files_alone form) (sym says.0) ∙ gives.3 in
      let are = subst (AreRows identify text) (sym gives.1) (rows_are identify (form_of in_bag text) text rows fits has) in
      (subst (λ (one : Listed). ListSays in_bag identify text (Ok one)) (sym gives.0) says, are, gives.2, ap (λ (one : Listed). may_measure how one.hash) gives.0 ∙ may)
  says_by listed rows (Err NoFormats) says has may gives = (gives.0, ap (λ (form : ListForm). names_files_alone form) (sym says.0) ∙ gives.1)
  says_by listed rows (Err NoMemory) says has may gives = absurd gives
  says_by listed rows (Err (NoList fault)) says has may gives = absurd gives
  says_by listed rows (Err HasHashes) says has may gives = absurd gives
  says_by listed rows (Err Same) says has may gives = gives
  says_by listed rows (Err Differing) says has may gives = gives
  says_by listed rows (Err NoFolder) says has may gives = gives
  says_by listed rows (Err (Unopened why)) says has may gives = gives
  says_by listed rows (Err Numbers) says has may gives = gives
  says_by listed rows (Err Twice) says has may gives = gives
  says_by listed rows (Err Unwritten) says has may gives = gives

  pub unlisted_says : (fault : UnreadList) → ListSays in_bag identify text (Err fault) → IsComparedList in_bag how identify text (Err (unlisted fault))
  unlisted_says unread.Memory says = tt
  unlisted_says (unread.Profile fault) says = says
  unlisted_says (unread.Manifest fault) says = says
  unlisted_says (unread.Twice same) says = says
