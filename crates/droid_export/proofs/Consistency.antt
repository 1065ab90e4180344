-- Rows that do not contradict each other agree.
use Rattle.std.proofs.Common.{◌≡◌, ◌∙◌, ℕ, zero, suc, ◌==◌, ◌&&◌, ◌||◌, Bool, true, false, cond, not, List, [], ◌∷◌, ◌++◌, append-nil, append_assoc, ◌⊎◌, inl, inr, Option, Some, None, refl, sym, ap, subst, arith}
use Rattle.std.specs.List.{AllByRecursion, Contains, IsDistinct, list_all, list_any}
use Rattle.std.specs.Str.{bytes_eq}
use Rattle.std.proofs.lemmas.Bool.Decides.{nat_tests}
use Rattle.std.proofs.lemmas.Slice.Eq.{bytes_eq-Decides}
use Rattle.droid_frame.specs.Filters.{is_file}
use Rattle.droid_frame.specs.declared.item.Item.{Item}
use Rattle.droid_export.specs.FolderMaps.{IsSaid}
use Rattle.droid_export.specs.FolderNumbers.{AreConsistent, Saying, above_sayings, agree, column_against, contradiction, contradiction_from, fit, ids_in, or_later, own_sayings, sayings_in}
use Rattle.droid_export.specs.declared.column.Column.{Column}
use Rattle.droid_export.specs.declared.column.Column.TheVariants as columns
use Rattle.droid_export.specs.declared.reading.fault.ListFault.{ListFault}
use Rattle.droid_export.specs.declared.reading.tag.Tag.{Tag}

-- ---- no contradiction

later_none : (number : ℕ) (column : Option Column) (later : Option ListFault) → or_later number column later ≡ None → (column ≡ None) × (later ≡ None)
later_none number (Some column) later none = cc
later_none number None later none = (refl, none)

no_column : (twice own above : Bool) → cond twice (Some columns.Id) (cond (not own) (Some columns.Id) (cond (not above) (Some columns.ParentId) None)) ≡ None
    → (twice ≡ false) × (own ≡ true) × (above ≡ true)
no_column true own above none = cc
no_column false true true none = (refl, refl, refl)
no_column false true false none = cc
no_column false false above none = cc

-- a row that contradicts none before it
pub record Fits (ids : List ℕ) (said : List Saying) (item : Item) (tag : Tag) : Type 0 where
  pub new : list_any (λ id. id == tag.id) ids ≡ false
  pub own : fit said (own_sayings item tag) ≡ true
  pub above : fit (said ++ own_sayings item tag) (above_sayings item tag) ≡ true

pub it_fits : (ids : List ℕ) (said : List Saying) (item : Item) (tag : Tag) → column_against ids said item tag ≡ None → Fits ids said item tag
it_fits ids said item tag none =
    let all = no_column (list_any (λ id. id == tag.id) ids) (fit said (own_sayings item tag)) (fit (said ++ own_sayings item tag) (above_sayings item tag)) none in
    record { new = all.0; own = all.1; above = all.2 }

-- ---- IDs

or_parts : (a b : Bool) → (a || b) ≡ false → (a ≡ false) × (b ≡ false)
or_parts true b none = cc
or_parts false b none = (refl, none)

any_append : (test : ℕ → Bool) (ids : List ℕ) (id : ℕ) → list_any test (ids ++ id ∷ []) ≡ false → (list_any test ids ≡ false) × (test id ≡ false)
any_append test [] id none = (refl, (or_parts (test id) false none).0)
any_append test (x ∷ ids) id none =
    let here = or_parts (test x) (list_any test (ids ++ id ∷ [])) none in
    let rest = any_append test ids id here.1 in
    (rw here.0 rest.0, rest.1)

-- IDs that are none of these
abbrev AreNew : List ℕ → List ℕ → Type 0
AreNew ids more = AllByRecursion (λ id. list_any (λ x. x == id) ids ≡ false) more

both_new : (ids : List ℕ) (id : ℕ) (more : List ℕ) → AreNew (ids ++ id ∷ []) more → AreNew ids more × AllByRecursion (λ other. (id == other) ≡ false) more
both_new ids id [] all = (tt, tt)
both_new ids id (other ∷ more) all =
    let here = any_append (λ x. x == other) ids id all.0 in
    let rest = both_new ids id more all.1 in
    ((here.0, rest.0), (here.1, rest.1))

ids_new : (ids : List ℕ) (said : List Saying) (items : List Item) (tags : List Tag) → contradiction_from ids said items tags ≡ None
    → AreNew ids (ids_in items tags) × IsDistinct (λ a b. a == b) (ids_in items tags)
unfolding IsDistinct
ids_new ids said [] tags none = (tt, tt)
ids_new ids said (item ∷ items) [] none = (tt, tt)
ids_new ids said (item ∷ items) (tag ∷ tags) none =
    let here = later_none tag.number (column_against ids said item tag) (contradiction_from (ids ++ tag.id ∷ []) ((said ++ own_sayings item tag) ++ above_sayings item tag) items tags) none in
    let first = it_fits ids said item tag here.0 in
    let rest = ids_new (ids ++ tag.id ∷ []) ((said ++ own_sayings item tag) ++ above_sayings item tag) items tags here.1 in
    let parts = both_new ids tag.id (ids_in items tags) rest.0 in
    ((first.new, parts.0), (parts.1, rest.1))

-- ---- sayings

abbrev AllAgree : List Saying → Type 0
AllAgree said = (x y : Saying) → IsSaid said x → IsSaid said y → agree x y ≡ true

bool_same : (a b : Bool) → (a ≡ true → b ≡ true) → (b ≡ true → a ≡ true) → a ≡ b
bool_same true true into back = refl
bool_same true false into back = let bad : false ≡ true = into refl in cc
bool_same false true into back = let bad : false ≡ true = back refl in cc
bool_same false false into back = refl

eq_sym : (n m : ℕ) → (n == m) ≡ (m == n)
eq_sym n m = grind (arith, nat_tests)

bytes_sym : (p q : List ℕ) → bytes_eq p q ≡ bytes_eq q p
bytes_sym p q =
    bool_same (bytes_eq p q) (bytes_eq q p) (λ is. (bytes_eq-Decides q p).1 (sym ((bytes_eq-Decides p q).0 is))) (λ is. (bytes_eq-Decides p q).1 (sym ((bytes_eq-Decides q p).0 is)))

agree_sym : (x y : Saying) → agree x y ≡ agree y x
agree_sym x y = rw (eq_sym x.number y.number, bytes_sym x.path y.path) refl

eq_self : (n : ℕ) → (n == n) ≡ true
eq_self n = grind (arith, nat_tests)

agree_self : (x : Saying) → agree x x ≡ true
agree_self x = rw (eq_self x.number) ((bytes_eq-Decides x.path x.path).1 refl)

and_both : (a b : Bool) → (a && b) ≡ true → (a ≡ true) × (b ≡ true)
and_both true b all = (refl, all)
and_both false b all = cc

passes : (test : Saying → Bool) (said : List Saying) (x : Saying) → list_all test said ≡ true → IsSaid said x → test x ≡ true
passes test [] x all there = absurd there
passes test (y ∷ said) x all (inl is) = subst (λ (z : Saying). test z ≡ true) is (and_both (test y) (list_all test said) all).0
passes test (y ∷ said) x all (inr later) = passes test said x (and_both (test y) (list_all test said) all).1 later

in_front : (said : List Saying) (x y : Saying) → IsSaid (said ++ x ∷ []) y → IsSaid said y ⊎ (x ≡ y)
in_front [] x y (inl is) = inr is
in_front [] x y (inr never) = absurd never
in_front (z ∷ said) x y (inl is) = inl (inl is)
in_front (z ∷ said) x y (inr later) = elim (in_front said x y later) [
  | inl there ↦ inl (inr there)
  | inr is ↦ inr is
]

agree_by : (said : List Saying) (x y z : Saying) → list_all (agree x) said ≡ true → AllAgree said → IsSaid said y ⊎ (x ≡ y) → IsSaid said z ⊎ (x ≡ z) → agree y z ≡ true
agree_by said x y z all before (inl one) (inl other) = before y z one other
agree_by said x y z all before (inl one) (inr last) =
    subst (λ (w : Saying). agree y w ≡ true) last (agree_sym y x ∙ passes (agree x) said y all one)
agree_by said x y z all before (inr last) (inl other) = subst (λ (w : Saying). agree w z ≡ true) last (passes (agree x) said z all other)
agree_by said x y z all before (inr last) (inr also) =
    subst (λ (w : Saying). agree w z ≡ true) last (subst (λ (w : Saying). agree x w ≡ true) also (agree_self x))

agree_more : (said : List Saying) (test : Bool) (x : Saying) → fit said (cond test [] (x ∷ [])) ≡ true → AllAgree said → AllAgree (said ++ cond test [] (x ∷ []))
agree_more said true x all before = subst AllAgree (sym (append-nil said)) before
agree_more said false x all before = λ y z one other.
    agree_by said x y z (and_both (list_all (agree x) said) true all).0 before (in_front said x y one) (in_front said x z other)

sayings_agree : (ids : List ℕ) (said : List Saying) (items : List Item) (tags : List Tag) → contradiction_from ids said items tags ≡ None → AllAgree said
    → AllAgree (said ++ sayings_in items tags)
sayings_agree ids said [] tags none before = subst AllAgree (sym (append-nil said)) before
sayings_agree ids said (item ∷ items) [] none before = subst AllAgree (sym (append-nil said)) before
sayings_agree ids said (item ∷ items) (tag ∷ tags) none before =
    let here = later_none tag.number (column_against ids said item tag) (contradiction_from (ids ++ tag.id ∷ []) ((said ++ own_sayings item tag) ++ above_sayings item tag) items tags) none in
    let first = it_fits ids said item tag here.0 in
    let own : AllAgree (said ++ own_sayings item tag) = agree_more said (is_file item.kind) _ first.own before in
    let above : AllAgree ((said ++ own_sayings item tag) ++ above_sayings item tag) = agree_more (said ++ own_sayings item tag) (tag.parent == 0) _ first.above own in
    let rest = sayings_agree (ids ++ tag.id ∷ []) ((said ++ own_sayings item tag) ++ above_sayings item tag) items tags here.1 above in
    subst AllAgree
    (ap (λ (all : List Saying). all ++ sayings_in items tags) (append_assoc said (own_sayings item tag) (above_sayings item tag))
    ∙ append_assoc said (own_sayings item tag ++ above_sayings item tag) (sayings_in items tags)) rest

from_contains : (said : List Saying) (x : Saying) → Contains said x → IsSaid said x
from_contains [] x has = absurd (omega (arith, has.1))
from_contains (y ∷ said) x (zero, below, is) = inl is
from_contains (y ∷ said) x (suc k, below, is) = inr (from_contains said x (k, omega (arith, below), is))

pub they_agree : (items : List Item) (tags : List Tag) → contradiction items tags ≡ None → AreConsistent items tags
they_agree items tags none = record {
  ids = (ids_new [] [] items tags none).1;
  folders = λ x y one other.
      sayings_agree [] [] items tags none (λ a b never also. absurd never) x y (from_contains (sayings_in items tags) x one) (from_contains (sayings_in items tags) y other);
}
