-- One more format.
use Rattle.std.proofs.Common.{◌≡◌, ◌∙◌, ℕ, ◌+◌, ◌<◌, ◌≤◌, List, [], ◌∷◌, ◌++◌, length, take, get_or, Some, refl, sym, ap, subst}
use Rattle.std.proofs.lemmas.List.{append-nil, length-map, map-append, take_all}
use Rattle.std.proofs.lemmas.List.Concat.{flat_map-append}
use Rattle.droid_signature.specs.Csv.{line}
use Rattle.droid_pronom.specs.declared.format.Format.{Format}
use Rattle.droid_signature.specs.RegistryTables.{FormatFits, format_fields, format_lines}
use Rattle.droid_signature_file.specs.Records.{FormatRecord}
use Rattle.droid_signature.specs.Formats.{IsReasonOfFormat, LeavesFormat, Placed, TakesFormat, format_of, formats_of, placed}
use Rattle.droid_signature.specs.Keepings.{Keeps}
use Rattle.droid_signature.specs.PlaceMaps.{AreOf}
use Rattle.droid_signature.specs.Sifting.{Sifted, left_out, taken}
use Rattle.droid_signature.specs.Tables.{HasLeft, HasRow}
use Rattle.droid_signature.specs.Views.{all_of, kept_of}
use Rattle.droid_signature.specs.declared.formats.Keeping.{Keeping}
use Rattle.droid_signature.specs.declared.formats.Kept.{Kept}
use Rattle.droid_signature.specs.declared.left_out.Item.TheVariants as items
use Rattle.droid_signature.specs.declared.left_out.LeftOut.{LeftOut}
use Rattle.droid_signature.specs.declared.left_out.Why.{Why}
use Rattle.droid_signature.proofs.Sifting.{by_place_more}

-- formats with one more
pub formats_push : (kept : List Placed) (it : Placed) → formats_of (kept ++ it ∷ []) ≡ formats_of kept ++ format_of it.format ∷ []
formats_push kept it = map-append (λ k. format_of k.format) kept (it ∷ [])

pub all_push : (kept : List Kept) (it : Kept) → all_of (kept ++ it ∷ []) ≡ all_of kept ++ kept_of it ∷ []
all_push kept it = map-append kept_of kept (it ∷ [])

pub formats_length : (kept : List Kept) → length (formats_of (all_of kept)) ≡ length kept
formats_length kept = length-map (all_of kept) (λ k. format_of k.format) ∙ length-map kept kept_of

lines_push : (formats : List Format) (it : Format) → format_lines (formats ++ it ∷ []) ≡ format_lines formats ++ line (format_fields it)
lines_push formats it = flat_map-append (λ f. line (format_fields f)) formats (it ∷ []) ∙ ap (λ t. format_lines formats ++ t) (append-nil (line (format_fields it)))

-- a format is kept
pub keeps_taken : (xs : List Placed) (old new : Keeping) (it : Kept) → Keeps xs old → FormatFits (formats_of (all_of old.kept.items)) (format_of it.format.now)
    → new.kept.items ≡ old.kept.items ++ it ∷ [] → HasRow old.table new.table (format_fields (format_of it.format.now)) → AreOf new.places (formats_of (all_of old.kept.items) ++ format_of it.format.now ∷ [])
    → Keeps (xs ++ kept_of it ∷ []) new
keeps_taken xs old new it keeps fits grown has places =
    let all : all_of new.kept.items ≡ all_of old.kept.items ++ kept_of it ∷ [] = ap all_of grown ∙ all_push old.kept.items it in
    let formats : formats_of (all_of new.kept.items) ≡ formats_of (all_of old.kept.items) ++ format_of it.format.now ∷ [] = ap formats_of all ∙ formats_push (all_of old.kept.items) (kept_of it) in
    record {
      sifted =
          subst (λ (l : List Placed). Sifted TakesFormat LeavesFormat (xs ++ kept_of it ∷ []) l new.table.left_out.items) (sym all)
          (subst (λ (l : List LeftOut). Sifted TakesFormat LeavesFormat (xs ++ kept_of it ∷ []) (all_of old.kept.items ++ kept_of it ∷ []) l) (sym has.left_out) (taken keeps.sifted (record { same = refl; fits = fits })));
      text = has.text ∙ ap (λ t. t ++ line (format_fields (format_of it.format.now))) keeps.text ∙ sym (lines_push (formats_of (all_of old.kept.items)) (format_of it.format.now)) ∙ ap format_lines (sym formats);
      places = subst (λ (l : List Format). AreOf new.places l) (sym formats) places;
    }

-- a format is left out
pub keeps_left : (xs : List Placed) (old new : Keeping) (place : ℕ) (format : FormatRecord) (why : Why) → Keeps xs old → IsReasonOfFormat (formats_of (all_of old.kept.items)) format why
    → new.kept.items ≡ old.kept.items → new.places ≡ old.places → HasLeft old.table new.table (record { format = Some place; item = items.Format; why = why })
    → Keeps (xs ++ record { place = place; format = format } ∷ []) new
keeps_left xs old new place format why keeps holds same held has =
    let it : Placed = record { place = place; format = format } in
    let listed : LeftOut = record { format = Some place; item = items.Format; why = why } in
    record {
      sifted =
          subst (λ (l : List Kept). Sifted TakesFormat LeavesFormat (xs ++ it ∷ []) (all_of l) new.table.left_out.items) (sym same)
          (subst (λ (l : List LeftOut). Sifted TakesFormat LeavesFormat (xs ++ it ∷ []) (all_of old.kept.items) l) (sym has.left_out) (left_out keeps.sifted (record { why = why; listed = refl; holds = holds })));
      text = has.text ∙ keeps.text ∙ ap (λ l. format_lines (formats_of (all_of l))) (sym same);
      places = subst (λ p. AreOf p (formats_of (all_of new.kept.items))) (sym held) (subst (λ (l : List Kept). AreOf old.places (formats_of (all_of l))) (sym same) keeps.places);
    }

-- the loop over the file's formats
pub keeps_more : (formats : List FormatRecord) (i : ℕ) (format : FormatRecord) (it : Keeping) → i < length formats → format ≡ get_or formats i format
    → Keeps (placed (take i formats) ++ record { place = i; format = format } ∷ []) it → Keeps (placed (take (i + 1) formats)) it
keeps_more formats i format it below is keeps =
    subst (λ (l : List Placed). Keeps l it) (sym (by_place_more (λ place format. record { place = place; format = format } ∷ []) formats i format below is)) keeps

pub keeps_whole : (formats : List FormatRecord) (i : ℕ) (it : Keeping) → length formats ≤ i → Keeps (placed (take i formats)) it → Keeps (placed formats) it
keeps_whole formats i it long keeps = subst (λ (l : List FormatRecord). Keeps (placed l) it) (take_all i formats long) keeps
