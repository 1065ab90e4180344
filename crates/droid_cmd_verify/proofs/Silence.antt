-- Nothing is reported at the path of an item that agrees with what was found.
use Rattle.std.proofs.Common.{◌≡◌, ◌∙◌, ℕ, zero, suc, Bool, true, false, not, ◌&&◌, cond, List, [], ◌∷◌, filter, map, Option, Some, refl, sym, ap}
use Rattle.std.specs.Cmp.Lexicographic.{slice_cmp}
use Rattle.std.specs.List.{AllByRecursion, slice_get}
use Rattle.std.specs.Option.{option_map_or}
use Rattle.std.specs.Ordering.{nat_cmp}
use Rattle.std.specs.Str.{bytes_eq}
use Rattle.std.specs.declared.cmp.Ordering.TheVariants.{Less, Equal}
use Rattle.std.proofs.lemmas.Bool.{and_parts}
use Rattle.std.proofs.lemmas.Cmp.{nat_list_cmp_total, tied_itself}
use Rattle.std.proofs.lemmas.Map.Keys.{any_passes_from_place}
use Rattle.std.proofs.lemmas.Slice.Eq.{bytes_eq-Decides}
use Rattle.droid_frame.specs.Hashes.{hash_bytes}
use Rattle.droid_fixity.specs.FilePairs.{IsFilePair}
use Rattle.droid_fixity.specs.Inventories.{AreInOrder, IsBefore}
use Rattle.droid_frame.specs.Items.{bears, both_hashed, changes_between, is_any, other_moment}
use Rattle.droid_fixity.specs.Reports.{IsDifference, changed, is_absent, missing, moved, new, path_at, path_of, touched}
use Rattle.droid_fixity.specs.declared.difference.Difference.{Difference}
use Rattle.droid_frame.specs.declared.item.Item.{Item}
use Rattle.droid_fixity.specs.declared.pair.FilePair.{FilePair}
use Rattle.droid_cmd_verify.specs.Compared.{by_hashes, by_moments, differs, hashed_by, is_hashed, is_unchecked}
use Rattle.droid_cmd_verify.specs.Findings.{IsSilentAt, is_file_at, is_reported}
use Rattle.droid_cmd_verify.specs.declared.measure.Measure.{Measure}
use Rattle.droid_cmd_verify.specs.declared.measure.Measure.TheVariants.{Hashes, Sizes, Moments}

abbrev paths : List Item → List (List ℕ)
paths items = map (λ item. item.path) items

-- ---- places

before_other : (a b : List ℕ) → IsBefore a b → a ≡ b → ⊥
before_other a b before same =
    let itself : slice_cmp nat_cmp a a ≡ Equal = tied_itself nat_list_cmp_total a in
    let less : slice_cmp nat_cmp a a ≡ Less = ap (λ (path : List ℕ). slice_cmp nat_cmp a path) same ∙ before in
    cc

before_there : (path : List ℕ) (items : List Item) (place : ℕ) (item : Item) → AllByRecursion (IsBefore path) (paths items) → slice_get items place ≡ Some item → IsBefore path item.path
before_there path [] place item before there = cc
before_there path (first ∷ items) zero item before there = let same : first ≡ item = cc in rw (← same) before.0
before_there path (first ∷ items) (suc place) item before there = before_there path items place item before.1 there

-- items in order have one item of a path
one_item : (items : List Item) (k j : ℕ) (a b : Item) → AreInOrder (paths items) → slice_get items k ≡ Some a → slice_get items j ≡ Some b → a.path ≡ b.path → a ≡ b
one_item [] k j a b in_order here there same = cc
one_item (first ∷ items) zero zero a b in_order here there same = cc
one_item (first ∷ items) zero (suc j) a b in_order here there same =
    let is : first ≡ a = cc in
    absurd (before_other first.path b.path (before_there first.path items j b in_order.0 there) (ap (λ (item : Item). item.path) is ∙ same))
one_item (first ∷ items) (suc k) zero a b in_order here there same =
    let is : first ≡ b = cc in
    absurd (before_other first.path a.path (before_there first.path items k a in_order.0 here) (ap (λ (item : Item). item.path) is ∙ sym same))
one_item (first ∷ items) (suc k) (suc j) a b in_order here there same = one_item items k j a b in_order.1 here there same

path_is : (items : List Item) (place : ℕ) (item : Item) → slice_get items place ≡ Some item → path_at items place ≡ item.path
path_is items place item there = ap (λ (o : Option Item). option_map_or (λ (one : Item). one.path) o []) there

absent_there : (path : List ℕ) (items : List Item) (place : ℕ) (item : Item) → slice_get items place ≡ Some item → path ≡ item.path → is_absent path items ≡ false
absent_there path items place item there same = ap not (any_passes_from_place (λ one. bytes_eq path one.path) items place item there ((bytes_eq-Decides path item.path).1 same))

-- ---- what passes

passing_by : (test : Item → Bool) (passes : Bool) (item : Item) (items : List Item) → test item ≡ passes → AllByRecursion (λ it. test it ≡ true) (filter test items)
    → AllByRecursion (λ it. test it ≡ true) (cond passes (item ∷ filter test items) (filter test items))
passing_by test true item items is rest = (is, rest)
passing_by test false item items is rest = rest

passing : (test : Item → Bool) (items : List Item) → AllByRecursion (λ it. test it ≡ true) (filter test items)
passing test [] = tt
passing test (item ∷ items) = passing_by test (test item) item items refl (passing test items)

some_pass_by : (test other : Item → Bool) (passes : Bool) (item : Item) (items : List Item) → other item ≡ true → AllByRecursion (λ it. other it ≡ true) (filter test items)
    → AllByRecursion (λ it. other it ≡ true) (cond passes (item ∷ filter test items) (filter test items))
some_pass_by test other true item items is rest = (is, rest)
some_pass_by test other false item items is rest = rest

some_pass : (test other : Item → Bool) (items : List Item) → AllByRecursion (λ it. other it ≡ true) items → AllByRecursion (λ it. other it ≡ true) (filter test items)
some_pass test other [] all = tt
some_pass test other (item ∷ items) all = some_pass_by test other (test item) item items all.0 (some_pass test other items all.1)

-- the only one that passes both tests passes the second
only_passes : (test other : Item → Bool) (items : List Item) (item : Item) → filter test (filter other items) ≡ item ∷ [] → other item ≡ true
only_passes test other items item only =
    let all = some_pass test other (filter other items) (passing other items) in
    let one = rw only at all in
    one.0

-- ---- the report

-- by what files are compared
moments_are : (how : Measure) → by_moments how ≡ true → how ≡ Moments
moments_are Hashes is = absurd cc
moments_are Sizes is = absurd cc
moments_are Moments is = refl

hashes_are : (how : Measure) → by_hashes how ≡ true → how ≡ Hashes
hashes_are Hashes is = refl
hashes_are Sizes is = absurd cc
hashes_are Moments is = absurd cc

module _ (how : Measure) (listed found : List Item) (l f : ℕ) (a b : Item) (up : AreInOrder (paths listed)) (down : AreInOrder (paths found)) (here : slice_get listed l ≡ Some a) (there : slice_get found f ≡ Some b)
    (same : a.path ≡ b.path) (alike : is_any (changes_between a b) ≡ false) (moment : how ≡ Moments → other_moment a.modified b.modified ≡ false) where
  silent : (d : Difference) → IsDifference listed found d → is_reported how found d ≡ true → path_of listed found d ≡ a.path → ⊥
  silent d (changed {l = k} {f = g} {a = c} {b = e} at also one any) reported is =
      let path : c.path ≡ a.path = sym (path_is listed k c at) ∙ is in
      let first : c ≡ a = one_item listed k l c a up at here path in
      let second : e ≡ b = one_item found g f e b down also there (sym one ∙ (path ∙ same)) in
      let bad : true ≡ false = sym any ∙ (ap (λ (x : Item). is_any (changes_between x e)) first ∙ (ap (λ (x : Item). is_any (changes_between a x)) second ∙ alike)) in
      cc
  silent d (touched {l = k} {f = g} {a = c} {b = e} at also one none other) reported is =
      let path : c.path ≡ a.path = sym (path_is listed k c at) ∙ is in
      let first : c ≡ a = one_item listed k l c a up at here path in
      let second : e ≡ b = one_item found g f e b down also there (sym one ∙ (path ∙ same)) in
      let bad : true ≡ false = sym other ∙ (ap (λ (x : Item). other_moment x.modified e.modified) first ∙ (ap (λ (x : Item). other_moment a.modified x.modified) second ∙ moment (moments_are how (and_parts (by_moments how) (is_file_at found g) reported).0))) in
      cc
  silent d (missing {l = k} {a = c} at absent never) reported is =
      let path : c.path ≡ a.path = sym (path_is listed k c at) ∙ is in
      let bad : true ≡ false = sym absent ∙ absent_there c.path found f b there (path ∙ same) in
      cc
  silent d (new {f = g} {b = e} at absent never) reported is =
      let path : e.path ≡ a.path = sym (path_is found g e at) ∙ is in
      let bad : true ≡ false = sym absent ∙ absent_there e.path listed l a here path in
      cc
  silent d (moved {l = k} {a = c} at also move) reported is =
      let path : c.path ≡ a.path = sym (path_is listed k c at) ∙ is in
      let absent = only_passes (bears (hash_bytes c.hash)) (λ item. is_absent item.path found) listed c move.missing in
      let bad : true ≡ false = sym absent ∙ absent_there c.path found f b there (path ∙ same) in
      cc

  pub all_silent : (report : List Difference) → AllByRecursion (IsDifference listed found) report → AllByRecursion (IsSilentAt how listed found a.path) report
  all_silent [] all = tt
  all_silent (d ∷ report) all = ((λ reported is. silent d all.0 reported is), all_silent report all.1)

-- ---- the files that were not compared

module _ (how : Measure) (listed found : List Item) (l f : ℕ) (a b : Item) (up : AreInOrder (paths listed)) (down : AreInOrder (paths found)) (here : slice_get listed l ≡ Some a) (there : slice_get found f ≡ Some b)
    (same : a.path ≡ b.path) (hashed : how ≡ Hashes → both_hashed a b ≡ true) where
  compared : (pair : FilePair) → IsFilePair listed found pair → is_unchecked how listed found pair ≡ true → path_at listed pair.listed ≡ a.path → ⊥
  compared pair it unchecked is =
      let path : it.a.path ≡ a.path = sym (path_is listed pair.listed it.a it.here) ∙ is in
      let first : it.a ≡ a = one_item listed pair.listed l it.a a up it.here here path in
      let second : it.b ≡ b = one_item found pair.found f it.b b down it.there there (sym it.same ∙ (path ∙ same)) in
      let front = and_parts (by_hashes how && not (is_hashed listed found pair)) (not (differs listed found pair)) unchecked in
      let parts = and_parts (by_hashes how) (not (is_hashed listed found pair)) front.0 in
      let yes : is_hashed listed found pair ≡ true =
      ap (λ (o : Option Item). hashed_by o (slice_get found pair.found)) it.here
      ∙ (ap (λ (o : Option Item). hashed_by (Some it.a) o) it.there
      ∙ (ap (λ (x : Item). both_hashed x it.b) first ∙ (ap (λ (x : Item). both_hashed a x) second ∙ hashed (hashes_are how parts.0)))) in
      let bad : true ≡ false = sym parts.1 ∙ ap not yes in
      cc

  pub all_compared : (pairs : List FilePair) → AllByRecursion (IsFilePair listed found) pairs
      → AllByRecursion (λ pair. is_unchecked how listed found pair ≡ true → ¬ (path_at listed pair.listed ≡ a.path)) pairs
  all_compared [] all = tt
  all_compared (pair ∷ pairs) all = ((λ unchecked is. compared pair all.0 unchecked is), all_compared pairs all.1)
