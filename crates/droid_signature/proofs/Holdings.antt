-- What has an ID, with one more.
use Rattle.std.proofs.Common.{◌≡◌, ◌∙◌, ℕ, suc, ◌+◌, ◌<◌, ◌==◌, Bool, true, false, cond, List, [], ◌∷◌, ◌++◌, length, Option, Some, Less, Equal, Greater, refl, sym, ap, arith}
use Rattle.std.specs.Prelude.{unwrap_or, nat_lt}
use Rattle.std.specs.Ordering.{is_eq, nat_cmp}
use Rattle.std.proofs.lemmas.Bool.{eqb-true, ltb-true}
use Rattle.std.proofs.lemmas.List.{append-nil}
use Rattle.droid_signature.specs.Holders.{holder, holder_of, holding, one_more}
use Rattle.droid_signature.specs.declared.ids.Holder.{Holder}
use Rattle.droid_signature.specs.declared.ids.Holder.TheVariants.{Nobody, Only}

behind : (t : Bool) (n : ℕ) (held more : List ℕ) → cond t (n ∷ (held ++ more)) (held ++ more) ≡ cond t (n ∷ held) held ++ more
behind true n held more = refl
behind false n held more = refl

holding_push : (id n : ℕ) (ids : List ℕ) (x : ℕ) → holding id n (ids ++ x ∷ []) ≡ holding id n ids ++ cond (x == id) ((n + length ids) ∷ []) []
holding_push id n [] x = let none : n ≡ n + 0 = omega arith in ap (λ k. cond (x == id) (k ∷ []) []) none
holding_push id n (y ∷ ids) x =
    let place : suc n + length ids ≡ n + suc (length ids) = omega arith in
    ap (λ held. cond (y == id) (n ∷ held) held) (holding_push id (suc n) ids x ∙ ap (λ k. holding id (suc n) ids ++ cond (x == id) (k ∷ []) []) place)
    ∙ behind (y == id) n (holding id (suc n) ids) (cond (x == id) ((n + suc (length ids)) ∷ []) [])

more_of : (places : List ℕ) (place : ℕ) → holder_of (places ++ place ∷ []) ≡ one_more (holder_of places) place
more_of [] place = refl
more_of (a ∷ []) place = refl
more_of (a ∷ b ∷ places) place = refl

holder_push : (id x : ℕ) (ids : List ℕ) → holder id (ids ++ x ∷ []) ≡ cond (x == id) (one_more (holder id ids) (length ids)) (holder id ids)
holder_push id x ids = ap holder_of (holding_push id 0 ids x) ∙ by (x == id)
  where
    by : (t : Bool) → holder_of (holding id 0 ids ++ cond t ((0 + length ids) ∷ []) []) ≡ cond t (one_more (holder id ids) (length ids)) (holder id ids)
    by true = let place : 0 + length ids ≡ length ids = omega arith in more_of (holding id 0 ids) (0 + length ids) ∙ ap (one_more (holder id ids)) place
    by false = ap holder_of (append-nil (holding id 0 ids))

same_key : (k q : ℕ) → is_eq (nat_cmp k q) ≡ (k == q)
same_key k q = by (nat_lt k q) (k == q) refl refl
  where
    by : (a b : Bool) → nat_lt k q ≡ a → (k == q) ≡ b → is_eq (cond (nat_lt k q) Less (cond (k == q) Equal Greater)) ≡ (k == q)
    by true true below same = let less = ltb-true k q below in let equal = eqb-true k q same in absurd (omega arith)
    by true false below same = rw (below, same) refl
    by false true below same = rw (below, same) refl
    by false false below same = rw (below, same) refl

pub noted : (k q place : ℕ) (ids : List ℕ) (one held : Holder) (old new : Option Holder) → new ≡ cond (is_eq (nat_cmp k q)) (Some one) old → unwrap_or old Nobody ≡ holder q ids
    → one ≡ one_more held place → held ≡ holder k ids → place ≡ length ids → unwrap_or new Nobody ≡ holder q (ids ++ k ∷ [])
noted k q place ids one held old new made was is now at =
    ap (λ o. unwrap_or o Nobody) (made ∙ ap (λ t. cond t (Some one) old) (same_key k q)) ∙ by (k == q) refl ∙ sym (holder_push q k ids)
  where
    by : (t : Bool) → (k == q) ≡ t → unwrap_or (cond (k == q) (Some one) old) Nobody ≡ cond (k == q) (one_more (holder q ids) (length ids)) (holder q ids)
    by true same = rw same (is ∙ ap (one_more held) at ∙ ap (λ h. one_more h (length ids)) (now ∙ ap (λ i. holder i ids) (eqb-true k q same)))
    by false same = rw same was

-- ---- the only one that has an ID stands at its place

-- the places begin at n
-- at the first of them, or behind
first_or : (t : Bool) (id n x : ℕ) (ids : List ℕ) (p : ℕ) (more : List ℕ) → cond t (n ∷ holding id (suc n) ids) (holding id (suc n) ids) ≡ p ∷ more
    → (holding id (suc n) ids ≡ p ∷ more → (i : ℕ) × (p ≡ suc n + i) × (i < length ids)) → (i : ℕ) × (p ≡ n + i) × (i < suc (length ids))
first_or true id n x ids p more is later = let first : n ≡ p = cc in (0, omega arith, omega arith)
first_or false id n x ids p more is later = let (i, at, below) = later is in (suc i, omega arith, omega arith)

within : (id n : ℕ) (ids : List ℕ) (p : ℕ) (more : List ℕ) → holding id n ids ≡ p ∷ more → (i : ℕ) × (p ≡ n + i) × (i < length ids)
within id n [] p more is = absurd cc
within id n (x ∷ ids) p more is = first_or (x == id) id n x ids p more is (λ later. within id (suc n) ids p more later)

only_of : (places : List ℕ) (place : ℕ) → holder_of places ≡ Only place → places ≡ place ∷ []
only_of [] place is = absurd cc
only_of (a ∷ []) place is = cc
only_of (a ∷ b ∷ places) place is = absurd cc

pub only_within : (id : ℕ) (ids : List ℕ) (place : ℕ) → holder id ids ≡ Only place → place < length ids
only_within id ids place is = let (i, at, below) = within id 0 ids place [] (only_of (holding id 0 ids) place is) in omega arith
