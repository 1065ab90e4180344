-- One more ID.
use Rattle.std.proofs.Common.{◌≡◌, ◌∙◌, ℕ, ◌+◌, ◌<◌, ◌==◌, Bool, true, false, cond, List, [], ◌∷◌, ◌++◌, length, take, get_or, Option, Some, Less, Equal, Greater, refl, sym, ap, append_assoc, arith}
use Rattle.std.specs.Prelude.{◌||◌, is_some, nat_lt}
use Rattle.std.specs.Ordering.{is_eq, nat_cmp}
use Rattle.std.proofs.lemmas.Bool.{eqb-true, ltb-true}
use Rattle.std.proofs.lemmas.List.{append-nil, take_more}
use Rattle.std.proofs.lemmas.List.Concat.{flat_map-append}
use Rattle.droid_signature_file.specs.Records.{FormatRecord, SignatureRecord}
use Rattle.droid_signature.specs.Unnamed.{ids_named, is_named, unnamed_among}

pub same_key : (k q : ℕ) → is_eq (nat_cmp k q) ≡ (k == q)
same_key k q = by (nat_lt k q) (k == q) refl refl
  where
    by : (a b : Bool) → nat_lt k q ≡ a → (k == q) ≡ b → is_eq (cond (nat_lt k q) Less (cond (k == q) Equal Greater)) ≡ (k == q)
    by true true below same = let less = ltb-true k q below in let equal = eqb-true k q same in absurd (omega arith)
    by true false below same = rw (below, same) refl
    by false true below same = rw (below, same) refl
    by false false below same = rw (below, same) refl

any_push : (ids : List ℕ) (k q : ℕ) → is_named (ids ++ k ∷ []) q ≡ cond (k == q) true (is_named ids q)
any_push [] k q = by (k == q)
  where
    by : (t : Bool) → (t || false) ≡ cond t true false
    by true = refl
    by false = refl
any_push (x ∷ ids) k q = ap (λ t. (x == q) || t) (any_push ids k q) ∙ by (x == q) (k == q) (is_named ids q)
  where
    by : (a b c : Bool) → (a || cond b true c) ≡ cond b true (a || c)
    by true true c = refl
    by true false c = refl
    by false true c = refl
    by false false c = refl

pub named_push : (ids : List ℕ) (k q : ℕ) (old new : Option Bool) → new ≡ cond (is_eq (nat_cmp k q)) (Some true) old → is_some old ≡ is_named ids q → is_some new ≡ is_named (ids ++ k ∷ []) q
named_push ids k q old new made was = ap is_some (made ∙ ap (λ t. cond t (Some true) old) (same_key k q)) ∙ by (k == q) ∙ ap (λ t. cond (k == q) true t) was ∙ sym (any_push ids k q)
  where
    by : (t : Bool) → is_some (cond t (Some true) old) ≡ cond t true (is_some old)
    by true = refl
    by false = refl

pub others_push : (ids : List ℕ) (signatures : List SignatureRecord) (signature : SignatureRecord) → unnamed_among ids (signatures ++ signature ∷ []) ≡ unnamed_among ids signatures ++ cond (is_named ids signature.id) [] (signature.id ∷ [])
others_push ids [] signature = append-nil (cond (is_named ids signature.id) [] (signature.id ∷ []))
others_push ids (x ∷ signatures) signature =
    ap (λ t. cond (is_named ids x.id) [] (x.id ∷ []) ++ t) (others_push ids signatures signature) ∙ sym (append_assoc (cond (is_named ids x.id) [] (x.id ∷ [])) (unnamed_among ids signatures) (cond (is_named ids signature.id) [] (signature.id ∷ [])))

pub others_more : (ids : List ℕ) (signatures : List SignatureRecord) (i : ℕ) (signature : SignatureRecord) (old new : List ℕ) → i < length signatures → signature ≡ get_or signatures i signature → old ≡ unnamed_among ids (take i signatures)
    → new ≡ old ++ cond (is_named ids signature.id) [] (signature.id ∷ []) → new ≡ unnamed_among ids (take (i + 1) signatures)
others_more ids signatures i signature old new below is so_far grown =
    grown ∙ ap (λ l. l ++ cond (is_named ids signature.id) [] (signature.id ∷ [])) so_far ∙ sym (others_push ids (take i signatures) signature)
    ∙ ap (λ y. unnamed_among ids (take i signatures ++ y ∷ [])) is ∙ ap (unnamed_among ids) (sym (take_more signatures i signature below))

pub named_more : (formats : List FormatRecord) (i : ℕ) (format : FormatRecord) → i < length formats → format ≡ get_or formats i format → ids_named (take i formats) ++ format.signatures ≡ ids_named (take (i + 1) formats)
named_more formats i format below is =
    ap (λ t. ids_named (take i formats) ++ t) (sym (append-nil format.signatures)) ∙ sym (flat_map-append (λ (f : FormatRecord). f.signatures) (take i formats) (format ∷ []))
    ∙ ap (λ y. ids_named (take i formats ++ y ∷ [])) is ∙ ap ids_named (sym (take_more formats i format below))
