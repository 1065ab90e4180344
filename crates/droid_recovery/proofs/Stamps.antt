-- Which stamps the records so far have: those of the entries so far.
use Rattle.std.proofs.Common.{◌≡◌, inl, inr, ℕ, ◌+◌, ◌*◌, ◌<◌, ◌^◌, ◌==◌, ◌&&◌, ◌||◌, Bool, true, false, cond, List, [], ◌∷◌, ◌++◌, find, Option, Some, None, refl, sym, ap, ◌∙◌, arith}
use Rattle.std.specs.List.{list_any}
use Rattle.std.proofs.lemmas.Bool.{and_parts, eq-eqb, eqb-true, ne_eqb}
use Rattle.std.proofs.lemmas.List.Folds.{list_any-append}
use Rattle.droid_core_spec.specs.Histories.{Entry, History, is_under, kept}
use Rattle.droid_journal.specs.Records.{Record}
use Rattle.droid_compaction.specs.Fields.{stamp_in}
use Rattle.droid_compaction.specs.Shortening.{has_stamp}

abbrev pub stamp : ℕ → ℕ → ℕ
stamp client number = client * 18446744073709551616 + number

or_none : (b : Bool) → (b || false) ≡ b
or_none true = refl
or_none false = refl

-- one item more
any_more : {X : Type 0} (p : X → Bool) (xs : List X) (x : X) → list_any p (xs ++ x ∷ []) ≡ (list_any p xs || p x)
any_more p xs x = list_any-append p xs (x ∷ []) ∙ ap (λ b. list_any p xs || b) (or_none (p x))

none_first : {X : Type 0} (b : Bool) (x : X) (rest : Option X) (any : Bool) → cond b (Some x) rest ≡ None → (rest ≡ None → any ≡ false) → (b || any) ≡ false
none_first true x rest any is later = absurd cc
none_first false x rest any is later = later is

none_any : {X : Type 0} (p : X → Bool) (xs : List X) → find p xs ≡ None → list_any p xs ≡ false
none_any p [] is = refl
none_any p (x ∷ xs) is = none_first (p x) x (find p xs) (list_any p xs) is (none_any p xs)

some_first : {X : Type 0} (b : Bool) (x : X) (rest : Option X) (any : Bool) (y : X) → cond b (Some x) rest ≡ Some y → (rest ≡ Some y → any ≡ true) → (b || any) ≡ true
some_first true x rest any y is later = refl
some_first false x rest any y is later = later is

some_any : {X : Type 0} (p : X → Bool) (xs : List X) (y : X) → find p xs ≡ Some y → list_any p xs ≡ true
some_any p [] y is = absurd cc
some_any p (x ∷ xs) y is = some_first (p x) x (find p xs) (list_any p xs) y is (some_any p xs y)

apart : (n m : ℕ) → (n == m) ≡ false → n ≡ m → ⊥
apart n m isnt is = absurd (let it = eq-eqb n m is in cc)

-- two stamps are one if their clients and their numbers are
same_stamps : (a b c d : ℕ) → b < 2 ^ 64 → d < 2 ^ 64 → (one other : Bool) → (a == c) ≡ one → (b == d) ≡ other → (stamp a b == stamp c d) ≡ (one && other)
same_stamps a b c d fits small true true one other =
    let client : a ≡ c = eqb-true a c one in
    let number : b ≡ d = eqb-true b d other in
    eq-eqb (stamp a b) (stamp c d) (omega arith)
same_stamps a b c d fits small true false one other =
    let client : a ≡ c = eqb-true a c one in
    ne_eqb (stamp a b) (stamp c d) (λ same. apart b d other (omega (arith, client, same)))
same_stamps a b c d fits small false other one is =
    ne_eqb (stamp a b) (stamp c d) (λ same. apart a c one (omega (arith, fits, small, same)))

pub stamp_same : (a b c d : ℕ) → b < 2 ^ 64 → d < 2 ^ 64 → (stamp a b == stamp c d) ≡ ((a == c) && (b == d))
stamp_same a b c d fits small = same_stamps a b c d fits small (a == c) (b == d) refl refl

-- the records have the stamps of the entries
abbrev pub HaveStamps : List Record → History → Type 0
HaveStamps its history = (client number : ℕ) → number < 2 ^ 64 → has_stamp its (stamp client number) ≡ list_any (is_under client number) history

pub no_stamps : HaveStamps [] []
no_stamps client number small = refl

-- with a record of a new entry
pub stamps_more : (its : List Record) (history : History) (it : Record) (entry : Entry) → entry.frame.number < 2 ^ 64 → stamp_in it.request ≡ stamp entry.frame.client entry.frame.number → HaveStamps its history → HaveStamps (its ++ it ∷ []) (history ++ entry ∷ [])
stamps_more its history it entry fits its_stamp have client number small =
    any_more (λ (r : Record). stamp_in r.request == stamp client number) its it
    ∙ ap (λ (b : Bool). b || (stamp_in it.request == stamp client number)) (have client number small)
    ∙ ap (λ (b : Bool). list_any (is_under client number) history || b)
    (ap (λ (s : ℕ). s == stamp client number) its_stamp ∙ stamp_same entry.frame.client entry.frame.number client number fits small)
    ∙ sym (any_more (is_under client number) history entry)

-- with a record of one that came again
again_by : (b c : Bool) → (c ≡ true → b ≡ true) → (b || c) ≡ b
again_by true c is = refl
again_by false true is = absurd (let it = is refl in cc)
again_by false false is = refl

under : (history : History) (client number other_client other : ℕ) (entry : Entry) → kept history client number ≡ Some entry → ((client == other_client) && (number == other)) ≡ true → list_any (is_under other_client other) history ≡ true
under history client number other_client other entry there both =
    let parts = and_parts (client == other_client) (number == other) both in
    let one : client ≡ other_client = eqb-true client other_client parts.0 in
    let two : number ≡ other = eqb-true number other parts.1 in
    rw (sym one, sym two) (some_any (is_under client number) history entry there)

pub stamps_again : (its : List Record) (history : History) (it : Record) (client number : ℕ) (entry : Entry) → number < 2 ^ 64 → stamp_in it.request ≡ stamp client number → kept history client number ≡ Some entry → HaveStamps its history → HaveStamps (its ++ it ∷ []) history
stamps_again its history it client number entry fits its_stamp there have other_client other small =
    any_more (λ (r : Record). stamp_in r.request == stamp other_client other) its it
    ∙ ap (λ (b : Bool). b || (stamp_in it.request == stamp other_client other)) (have other_client other small)
    ∙ again_by (list_any (is_under other_client other) history) (stamp_in it.request == stamp other_client other)
    (λ is. under history client number other_client other entry there (sym (stamp_same client number other_client other fits small) ∙ ap (λ (s : ℕ). s == stamp other_client other) (sym its_stamp) ∙ is))

-- a new entry's stamp was not seen, and that of one that came again was
pub stamp_unseen : (its : List Record) (history : History) (client number : ℕ) → number < 2 ^ 64 → kept history client number ≡ None → HaveStamps its history → has_stamp its (stamp client number) ≡ false
stamp_unseen its history client number small none have = have client number small ∙ none_any (is_under client number) history none

pub stamp_seen : (its : List Record) (history : History) (client number : ℕ) (entry : Entry) → number < 2 ^ 64 → kept history client number ≡ Some entry → HaveStamps its history → has_stamp its (stamp client number) ≡ true
stamp_seen its history client number entry small there have = have client number small ∙ some_any (is_under client number) history entry there
