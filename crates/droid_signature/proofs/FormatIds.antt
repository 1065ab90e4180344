-- The IDs of the formats that a registry has.
use Rattle.std.proofs.Common.{◌≡◌, ◌∙◌, ℕ, ◌+◌, ◌<◌, ◌≤◌, List, [], ◌∷◌, ◌++◌, length, take, get_or, sym, ap, subst, arith}
use Rattle.std.proofs.lemmas.List.{length-map, length-take-le, map-append, take_more}
use Rattle.droid_signature.specs.RegistryTables.{PriorityRow}
use Rattle.droid_signature.specs.Formats.{Placed}
use Rattle.droid_signature.specs.Holders.{holder}
use Rattle.droid_signature.specs.Holdings.{AreOf}
use Rattle.droid_signature.specs.Priorities.{IsReasonOfHolder, IsReasonOfPriority, ids_of}
use Rattle.droid_signature.specs.Views.{all_of, kept_of}
use Rattle.droid_signature.specs.declared.formats.Kept.{Kept}
use Rattle.droid_signature.specs.declared.ids.Holder.TheVariants.{Only}
use Rattle.droid_signature.specs.declared.ids.Ids.{Ids}
use Rattle.droid_signature.specs.declared.left_out.Why.{Why}
use Rattle.droid_signature.specs.declared.left_out.Why.TheVariants as why
use Rattle.droid_signature.proofs.Holdings.{only_within}

pub ids_more : (kept : List Placed) (i : ℕ) (it : Placed) (id : ℕ) (ids : Ids) → i < length kept → it ≡ get_or kept i it → id ≡ it.format.id → AreOf ids (ids_of (take i kept) ++ id ∷ []) → AreOf ids (ids_of (take (i + 1) kept))
ids_more kept i it id ids below is same are =
    subst (λ (l : List ℕ). AreOf ids l)
    (ap (λ x. ids_of (take i kept) ++ x ∷ []) same
    ∙ sym (ap ids_of (take_more kept i it below) ∙ ap (λ y. ids_of (take i kept ++ y ∷ [])) (sym is) ∙ map-append (λ (k : Placed). k.format.id) (take i kept) (it ∷ [])))
    are

pub ids_long : (kept : List Placed) (i : ℕ) → i ≤ length kept → i ≡ length (ids_of (take i kept))
ids_long kept i few = sym (length-map (take i kept) (λ (k : Placed). k.format.id) ∙ length-take-le i kept few)

pub other_within : (kept : List Kept) (id place : ℕ) → holder id (ids_of (all_of kept)) ≡ Only place → place < length kept
other_within kept id place is =
    let below = only_within id (ids_of (all_of kept)) place is in
    let long : length (ids_of (all_of kept)) ≡ length kept = length-map (all_of kept) (λ (k : Placed). k.format.id) ∙ length-map kept kept_of in
    omega arith

pub holder_reason : (kept : List Placed) (before : List PriorityRow) (of : Placed) (id : ℕ) (reason : Why) → IsReasonOfHolder (holder id (ids_of kept)) reason → IsReasonOfPriority kept before of id reason
holder_reason kept before of id why.NoSuchFormat is = is
holder_reason kept before of id why.SeveralFormats is = is
holder_reason kept before of id other is = absurd is
