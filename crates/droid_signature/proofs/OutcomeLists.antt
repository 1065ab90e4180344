-- What each signature becomes, with one more, and at a place.
use Rattle.std.proofs.Common.{◌≡◌, ◌∙◌, ℕ, zero, suc, ◌+◌, ◌<◌, ◌≤◌, List, [], ◌∷◌, ◌++◌, length, take, get_or, Some, None, refl, sym, ap, subst, arith}
use Rattle.std.specs.List.{slice_get}
use Rattle.std.proofs.lemmas.List.{length-map, length-take-le, map-append, take_more}
use Rattle.std.proofs.lemmas.Option.{same_Some}
use Rattle.droid_signature_file.specs.Records.{SignatureRecord}
use Rattle.droid_signature.specs.Holders.{holder}
use Rattle.droid_signature.specs.Holdings.{AreOf}
use Rattle.droid_signature.specs.declared.ids.Holder.TheVariants.{Only}
use Rattle.droid_signature.specs.declared.ids.Ids.{Ids}
use Rattle.droid_signature.specs.declared.left_out.Why.{Why}
use Rattle.droid_signature.specs.declared.left_out.Why.TheVariants as why
use Rattle.droid_signature.proofs.Holdings.{only_within}
use Rattle.droid_signature.specs.Outcomes.{AreOutcomes, IsOutcome, IsReasonHere}
use Rattle.droid_signature.specs.Signatures.{IsOnlySignature, IsReasonOfId, ids_of}
use Rattle.droid_signature.specs.declared.outcomes.Outcome.{Outcome}

outcome_push : (signatures : List SignatureRecord) (outcomes : List Outcome) (signature : SignatureRecord) (outcome : Outcome) → AreOutcomes signatures outcomes → IsOutcome signature outcome → AreOutcomes (signatures ++ signature ∷ []) (outcomes ++ outcome ∷ [])
outcome_push [] [] signature outcome are is = (is, tt)
outcome_push [] (o ∷ outcomes) signature outcome are is = absurd are
outcome_push (s ∷ signatures) [] signature outcome are is = absurd are
outcome_push (s ∷ signatures) (o ∷ outcomes) signature outcome (here, more) is = (here, outcome_push signatures outcomes signature outcome more is)

pub outcomes_more : (signatures : List SignatureRecord) (i : ℕ) (signature : SignatureRecord) (outcomes new : List Outcome) (outcome : Outcome) → i < length signatures → signature ≡ get_or signatures i signature
    → AreOutcomes (take i signatures) outcomes → IsOutcome signature outcome → new ≡ outcomes ++ outcome ∷ [] → AreOutcomes (take (i + 1) signatures) new
outcomes_more signatures i signature outcomes new outcome below is are one grown =
    subst (λ (l : List Outcome). AreOutcomes (take (i + 1) signatures) l) (sym grown)
    (subst (λ (l : List SignatureRecord). AreOutcomes l (outcomes ++ outcome ∷ [])) (ap (λ y. take i signatures ++ y ∷ []) is ∙ sym (take_more signatures i signature below)) (outcome_push (take i signatures) outcomes signature outcome are one))

pub signature_ids_more : (signatures : List SignatureRecord) (i : ℕ) (signature : SignatureRecord) (id : ℕ) (ids : Ids) → i < length signatures → signature ≡ get_or signatures i signature → id ≡ signature.id
    → AreOf ids (ids_of (take i signatures) ++ id ∷ []) → AreOf ids (ids_of (take (i + 1) signatures))
signature_ids_more signatures i signature id ids below is same are =
    subst (λ (l : List ℕ). AreOf ids l)
    (ap (λ x. ids_of (take i signatures) ++ x ∷ []) same
    ∙ sym (ap ids_of (take_more signatures i signature below) ∙ ap (λ y. ids_of (take i signatures ++ y ∷ [])) (sym is) ∙ map-append (λ (s : SignatureRecord). s.id) (take i signatures) (signature ∷ [])))
    are

pub signature_ids_long : (signatures : List SignatureRecord) (i : ℕ) → i ≤ length signatures → i ≡ length (ids_of (take i signatures))
signature_ids_long signatures i few = sym (length-map (take i signatures) (λ (s : SignatureRecord). s.id) ∙ length-take-le i signatures few)

-- what the signature at a place becomes
pub outcome_is : (signatures : List SignatureRecord) (outcomes : List Outcome) (place : ℕ) (signature : SignatureRecord) (outcome : Outcome) → AreOutcomes signatures outcomes → slice_get signatures place ≡ Some signature
    → slice_get outcomes place ≡ Some outcome → IsOutcome signature outcome
outcome_is [] [] place signature outcome are there held = absurd cc
outcome_is [] (o ∷ outcomes) place signature outcome are there held = absurd are
outcome_is (s ∷ signatures) [] place signature outcome are there held = absurd are
outcome_is (s ∷ signatures) (o ∷ outcomes) zero signature outcome (here, more) there held =
    let first : s ≡ signature = same_Some s signature there in
    let second : o ≡ outcome = same_Some o outcome held in
    subst (λ (x : SignatureRecord). IsOutcome x outcome) first (subst (λ (x : Outcome). IsOutcome s x) second here)
outcome_is (s ∷ signatures) (o ∷ outcomes) (suc place) signature outcome (here, more) there held = outcome_is signatures outcomes place signature outcome more there held

pub outcome_there : (signatures : List SignatureRecord) (outcomes : List Outcome) (place : ℕ) (signature : SignatureRecord) → AreOutcomes signatures outcomes → slice_get signatures place ≡ Some signature → slice_get outcomes place ≡ None → ⊥
outcome_there [] [] place signature are there held = cc
outcome_there [] (o ∷ outcomes) place signature are there held = are
outcome_there (s ∷ signatures) [] place signature are there held = are
outcome_there (s ∷ signatures) (o ∷ outcomes) zero signature (here, more) there held = cc
outcome_there (s ∷ signatures) (o ∷ outcomes) (suc place) signature (here, more) there held = outcome_there signatures outcomes place signature more there held

-- the signature at a place within the list
at_place : {X : Type 0} (xs : List X) (i : ℕ) → i < length xs → (x : X) × (slice_get xs i ≡ Some x)
at_place [] i below = absurd (omega arith)
at_place (x ∷ xs) zero below = (x, refl)
at_place (x ∷ xs) (suc i) below = at_place xs i (omega arith)

pub only_there : (signatures : List SignatureRecord) (id place : ℕ) → holder id (ids_of signatures) ≡ Only place → (signature : SignatureRecord) × (slice_get signatures place ≡ Some signature)
only_there signatures id place held =
    let below = only_within id (ids_of signatures) place held in
    let long : length (ids_of signatures) ≡ length signatures = length-map signatures (λ (s : SignatureRecord). s.id) in
    at_place signatures place (omega arith)

pub here_reason : (signatures : List SignatureRecord) (id place : ℕ) (signature : SignatureRecord) (reason : Why) → IsOnlySignature signatures id place signature → IsReasonHere signature reason → IsReasonOfId signatures id reason
here_reason signatures id place signature (why.Signature reason) only is = (place, signature, only, is)
here_reason signatures id place signature other only is = absurd is
