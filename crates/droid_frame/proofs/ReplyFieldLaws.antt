-- The refusal that is read is the refusal that is spelled, and what is spelled is read again.
use Rattle.std.proofs.Common.{◌≡◌, ℕ, suc, Bool, true, false, cond, eqb, List, [], ◌∷◌, ◌++◌, Option, Some, None, refl, sym, ap, subst, ◌∙◌, inl, inr, ◌⊎◌}
use Rattle.std.specs.Int.{w32}
use Rattle.std.specs.List.{find, AllByRecursion}
use Rattle.std.specs.Option.{option_map}
use Rattle.std.proofs.lemmas.Bool.{eqb-true}
use Rattle.droid_frame.specs.declared.refusal.Limit.{Limit}
use Rattle.droid_frame.specs.declared.refusal.Limit.TheVariants as limits
use Rattle.droid_frame.specs.declared.refusal.Refusal.{Refusal}
use Rattle.droid_frame.specs.declared.refusal.Refusal.TheVariants.{Malformed, NumberReused, NoSuchProfile, NoSuchNode, NotAFolder, NotAFile, BadName, PathTooLong, NameTaken, BadOption, TooLarge, AlreadyFinished, BadPiece, PieceHeld, TooFarAhead, Incomplete, LimitReached, Memory, Store}
use Rattle.droid_frame.specs.Fields.{IsBytes}
use Rattle.droid_frame.specs.Reading.{number_at}
use Rattle.droid_frame.specs.Refusals.{refusal_number, limit_number}
use Rattle.droid_frame.specs.Replies.{refusal_bytes, refusal_detail, HasRefusalSpelling}
use Rattle.droid_frame.specs.ReplyRefusals.{choice_at, limit_at, plain_refusals, plain_refusal, plain_refusal_at, too_far_at, incomplete_at, limit_reached_at, refusal_after, refusal_at}
use Rattle.droid_frame.proofs.FieldLaws.{bind_some, some_is, IsFront, IsField, u32_field}

-- ---- one of some choices

-- which way a test went
pub either_way : {A : Type 0} (b : Bool) (x y z : A) → cond b x y ≡ z → ((b ≡ true) × (x ≡ z)) ⊎ (y ≡ z)
either_way true x y z e = inl (refl, e)
either_way false x y z e = inr e

-- what is found passes the test, and is one of the choices
find_gives : {A : Type 0} (P : A → Type 0) (test : A → Bool) (xs : List A) (x : A) → AllByRecursion P xs → find test xs ≡ Some x → (test x ≡ true) × P x
find_gives P test [] x all e = absurd cc
find_gives {A} P test (y ∷ ys) x all e =
    elim (either_way (test y) (Some y) (find test ys) (Some x) e) [
      | inl here ↦ let same : y ≡ x = some_is y x here.1 in (subst (λ (z : A). test z ≡ true) same here.0, subst P same all.0)
      | inr later ↦ find_gives P test ys x all.1 later
    ]

map_gives : {A B : Type 0} (f : A → B) (o : Option A) (y : B) → option_map f o ≡ Some y → (x : A) × (o ≡ Some x) × (f x ≡ y)
map_gives f None y e = absurd cc
map_gives f (Some x) y e = (x, refl, some_is (f x) y e)

-- the first byte is the number of the choice
choice_reads : {A : Type 0} (P : A → Type 0) (number : A → ℕ) (choices : List A) (bytes : List ℕ) (x : A × List ℕ) → AllByRecursion P choices → IsBytes bytes → choice_at number choices bytes ≡ Some x → IsFront bytes (number x.0 ∷ []) x.1 × P x.0
choice_reads P number choices [] x all are e = absurd cc
choice_reads {A} P number choices (b ∷ rest) x all are e =
    let some = map_gives (λ (y : A). (y, rest)) (find (λ y. eqb (number y) b) choices) x e in
    let given = find_gives P (λ y. eqb (number y) b) choices some.0 all some.1 in
    let front : IsFront (b ∷ rest) (number some.0 ∷ []) rest = record {
      parts = ap (λ (n : ℕ). n ∷ rest) (sym (eqb-true _ _ given.0));
      bytes_follow = λ i. are (suc i);
    } in
    subst (λ (z : A × List ℕ). IsFront (b ∷ rest) (number z.0 ∷ []) z.1 × P z.0) some.2 (front, given.1)

abbrev Always : {A : Type 0} → A → Type 0
Always x = Unit {0}

limit_reads : (bytes : List ℕ) (x : Limit × List ℕ) → IsBytes bytes → limit_at bytes ≡ Some x → IsFront bytes (limit_number x.0 ∷ []) x.1 × Always x.0
unfolding limit_at
limit_reads bytes x are e =
    choice_reads Always limit_number (limits.Profiles ∷ limits.Nodes ∷ limits.Unfinished ∷ []) bytes x (tt, (tt, (tt, tt))) are e

limit_again : (which : Limit) (rest : List ℕ) → Always which → limit_at ((limit_number which ∷ []) ++ rest) ≡ Some (which, rest)
unfolding limit_at
limit_again limits.Profiles rest always = refl
limit_again limits.Nodes rest always = refl
limit_again limits.Unfinished rest always = refl

limit_field : IsField limit_at (λ which. limit_number which ∷ []) Always
limit_field = record { reads = limit_reads; again = limit_again }

-- ---- refusals

-- a refusal with nothing after its number
abbrev IsPlain : Refusal → Type 0
IsPlain refusal = (refusal_detail refusal ≡ []) × HasRefusalSpelling refusal

all_plain : AllByRecursion IsPlain plain_refusals
all_plain =
    ((refl, tt), ((refl, tt), ((refl, tt), ((refl, tt), ((refl, tt), ((refl, tt), ((refl, tt), ((refl, tt), ((refl, tt), ((refl, tt), ((refl, tt), ((refl, tt), ((refl, tt), ((refl, tt), ((refl, tt), ((refl, tt), tt))))))))))))))))

-- the bytes are a refusal's spelling and then others
abbrev IsRefusalFront : List ℕ → Refusal × List ℕ → Type 0
IsRefusalFront bytes x = IsFront bytes (refusal_bytes x.0) x.1 × HasRefusalSpelling x.0

too_far_reads : (rest : List ℕ) (x : Refusal × List ℕ) → IsBytes rest → too_far_at rest ≡ Some x → IsRefusalFront (15 ∷ rest) x
unfolding too_far_at
too_far_reads rest x are e =
    let missing = bind_some (number_at w32 rest) (λ m. Some (TooFarAhead m.0, m.1)) x e in
    let front = u32_field.reads rest missing.0 are missing.1 in
    subst (IsRefusalFront (15 ∷ rest)) (some_is (TooFarAhead missing.0.0, missing.0.1) x missing.2)
    (record { parts = ap (λ (r : List ℕ). 15 ∷ r) front.0.parts; bytes_follow = front.0.bytes_follow }, front.1)

incomplete_reads : (rest : List ℕ) (x : Refusal × List ℕ) → IsBytes rest → incomplete_at rest ≡ Some x → IsRefusalFront (16 ∷ rest) x
unfolding incomplete_at
incomplete_reads rest x are e =
    let missing = bind_some (number_at w32 rest) (λ m. Some (Incomplete m.0, m.1)) x e in
    let front = u32_field.reads rest missing.0 are missing.1 in
    subst (IsRefusalFront (16 ∷ rest)) (some_is (Incomplete missing.0.0, missing.0.1) x missing.2)
    (record { parts = ap (λ (r : List ℕ). 16 ∷ r) front.0.parts; bytes_follow = front.0.bytes_follow }, front.1)

limit_reached_reads : (rest : List ℕ) (x : Refusal × List ℕ) → IsBytes rest → limit_reached_at rest ≡ Some x → IsRefusalFront (17 ∷ rest) x
unfolding limit_reached_at
limit_reached_reads rest x are e =
    let which = bind_some (limit_at rest) (λ w. Some (LimitReached w.0, w.1)) x e in
    let front = limit_field.reads rest which.0 are which.1 in
    subst (IsRefusalFront (17 ∷ rest)) (some_is (LimitReached which.0.0, which.0.1) x which.2)
    (record { parts = ap (λ (r : List ℕ). 17 ∷ r) front.0.parts; bytes_follow = front.0.bytes_follow }, tt)

plain_reads : (number : ℕ) (rest : List ℕ) (x : Refusal × List ℕ) → IsBytes rest → plain_refusal_at number rest ≡ Some x → IsRefusalFront (number ∷ rest) x
unfolding plain_refusal_at plain_refusal
plain_reads number rest x are e =
    let refusal = bind_some (find (λ r. eqb (refusal_number r) number) plain_refusals) (λ r. Some (r, rest)) x e in
    let given = find_gives IsPlain (λ r. eqb (refusal_number r) number) plain_refusals refusal.0 all_plain refusal.1 in
    let front : IsFront (number ∷ rest) (refusal_bytes refusal.0) rest = record {
      parts = ap (λ (n : ℕ). n ∷ rest) (sym (eqb-true _ _ given.0)) ∙ ap (λ (d : List ℕ). refusal_number refusal.0 ∷ (d ++ rest)) (sym given.1.0);
      bytes_follow = are;
    } in
    subst (IsRefusalFront (number ∷ rest)) (some_is (refusal.0, rest) x refusal.2) (front, given.1.1)

refusal_after_reads : (number : ℕ) (rest : List ℕ) (x : Refusal × List ℕ) → IsBytes rest → refusal_after number rest ≡ Some x → IsRefusalFront (number ∷ rest) x
unfolding refusal_after
refusal_after_reads number rest x are e =
    let front = λ (n : ℕ). IsRefusalFront (n ∷ rest) x in
    elim (either_way (eqb number 15) (too_far_at rest) (cond (eqb number 16) (incomplete_at rest) (cond (eqb number 17) (limit_reached_at rest) (plain_refusal_at number rest))) (Some x) e) [
      | inl is ↦ subst front (sym (eqb-true _ _ is.0)) (too_far_reads rest x are is.1)
      | inr f ↦ elim (either_way (eqb number 16) (incomplete_at rest) (cond (eqb number 17) (limit_reached_at rest) (plain_refusal_at number rest)) (Some x) f) [
        | inl is ↦ subst front (sym (eqb-true _ _ is.0)) (incomplete_reads rest x are is.1)
        | inr g ↦ elim (either_way (eqb number 17) (limit_reached_at rest) (plain_refusal_at number rest) (Some x) g) [
          | inl is ↦ subst front (sym (eqb-true _ _ is.0)) (limit_reached_reads rest x are is.1)
          | inr h ↦ plain_reads number rest x are h
        ]
      ]
    ]

refusal_reads : (bytes : List ℕ) (x : Refusal × List ℕ) → IsBytes bytes → refusal_at bytes ≡ Some x → IsRefusalFront bytes x
unfolding refusal_at
refusal_reads [] x are e = absurd cc
refusal_reads (number ∷ rest) x are e = refusal_after_reads number rest x (λ i. are (suc i)) e

refusal_again : (refusal : Refusal) (rest : List ℕ) → HasRefusalSpelling refusal → refusal_at (refusal_bytes refusal ++ rest) ≡ Some (refusal, rest)
unfolding refusal_at refusal_after plain_refusal_at plain_refusal too_far_at incomplete_at limit_reached_at
refusal_again Malformed rest fits = refl
refusal_again NumberReused rest fits = refl
refusal_again NoSuchProfile rest fits = refl
refusal_again NoSuchNode rest fits = refl
refusal_again NotAFolder rest fits = refl
refusal_again NotAFile rest fits = refl
refusal_again BadName rest fits = refl
refusal_again PathTooLong rest fits = refl
refusal_again NameTaken rest fits = refl
refusal_again BadOption rest fits = refl
refusal_again TooLarge rest fits = refl
refusal_again AlreadyFinished rest fits = refl
refusal_again BadPiece rest fits = refl
refusal_again PieceHeld rest fits = refl
refusal_again (TooFarAhead missing) rest fits = rw (u32_field.again missing rest fits) refl
refusal_again (Incomplete missing) rest fits = rw (u32_field.again missing rest fits) refl
refusal_again (LimitReached which) rest fits = rw (limit_field.again which rest tt) refl
refusal_again Memory rest fits = refl
refusal_again Store rest fits = refl

pub refusal_field : IsField refusal_at refusal_bytes HasRefusalSpelling
refusal_field = record { reads = refusal_reads; again = refusal_again }
