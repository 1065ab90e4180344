-- Where nothing is reported, a list and a tree have the same folders and files.
use Rattle.std.proofs.Common.{◌≡◌, ◌∙◌, ◌==◌, ℕ, zero, suc, Bool, true, false, not, ◌||◌, ◌&&◌, cond, List, [], ◌∷◌, ◌++◌, filter, map, length, Option, Some, refl, sym, ap}
use Rattle.std.specs.List.{AllByRecursion, Contains, list_any, slice_get}
use Rattle.std.specs.Str.{bytes_eq}
use Rattle.std.proofs.lemmas.Bool.{and_from, and_parts, or_parts}
use Rattle.std.proofs.lemmas.List.{nil_from_length}
use Rattle.std.proofs.lemmas.List.Sorted.{length_permutation}
use Rattle.std.proofs.lemmas.Slice.Eq.{bytes_eq-Decides}
use Rattle.droid_frame.specs.Hashes.{hash_bytes, hash_kind_number, hash_value_kind}
use Rattle.droid_lists.specs.declared.format_lists.format_change.FormatChange.{FormatChange}
use Rattle.droid_fixity.specs.FilePairs.{AreFilePairs, IsFilePair}
use Rattle.droid_frame.specs.Items.{bears, both_hashed, changes_between, is_any, other_hash, other_length, same_truth}
use Rattle.droid_frame.specs.Filters.{is_file}
use Rattle.droid_fixity.specs.Reports.{HasMoved, IsReport, alone, changed, is_absent, missing, moved, new}
use Rattle.droid_fixity.specs.declared.difference.Difference.{Difference}
use Rattle.droid_fixity.specs.declared.difference.Difference.TheVariants.{Changed, Missing, New, Moved}
use Rattle.droid_frame.specs.declared.item.Item.{Item}
use Rattle.droid_fixity.specs.declared.pair.FilePair.{FilePair}
use Rattle.droid_terminal.specs.declared.skipped.skipped_entry.SkippedEntry.{SkippedEntry}
use Rattle.droid_cmd_verify.specs.Agreements.{AreSame, EachFoundIsSame, EachListedIsSame}
use Rattle.droid_cmd_verify.specs.Compared.{differ_by, differs, hashed_by, is_hashed, is_unchecked}
use Rattle.droid_cmd_verify.specs.Findings.{AreFindings, difference_at, findings_in, format_at, is_reported, unchecked_at, unreadable_at}
use Rattle.droid_cmd_verify.specs.declared.measure.Measure.{Measure}
use Rattle.droid_cmd_verify.specs.declared.measure.Measure.TheVariants.{Hashes, Sizes, Moments}
use Rattle.droid_cmd_verify.proofs.Places.{map_none, none_passes, parts_none}

-- ---- places

-- an item with this path is among these
abbrev Found : List ℕ → List Item → Type 0
Found path items = (at : ℕ) × (item : Item) × (slice_get items at ≡ Some item) × (path ≡ item.path)

find_by : (same : Bool) (path : List ℕ) (item : Item) (items : List Item) → bytes_eq path item.path ≡ same
    → not (same || list_any (λ it. bytes_eq path it.path) items) ≡ false → (is_absent path items ≡ false → Found path items) → Found path (item ∷ items)
find_by true path item items is there more = (zero, item, refl, (bytes_eq-Decides path item.path).0 is)
find_by false path item items is there more = let rest = more there in (suc rest.0, rest.1, rest.2, rest.3)

find : (path : List ℕ) (items : List Item) → is_absent path items ≡ false → Found path items
find path [] there = cc
find path (item ∷ items) there = find_by (bytes_eq path item.path) path item items refl there (λ rest. find path items rest)

passing_by : {X : Type 0} (passes : Bool) (test : X → Bool) (y : X) (xs : List X) (at : ℕ) (x : X) → slice_get (cond passes (y ∷ filter test xs) (filter test xs)) at ≡ Some x
    → ((at : ℕ) → slice_get (filter test xs) at ≡ Some x → (place : ℕ) × (slice_get xs place ≡ Some x)) → (place : ℕ) × (slice_get (y ∷ xs) place ≡ Some x)
passing_by true test y xs zero x is more = (zero, is)
passing_by true test y xs (suc at) x is more = let rest = more at is in (suc rest.0, rest.1)
passing_by false test y xs at x is more = let rest = more at is in (suc rest.0, rest.1)

-- what passes a test is among all
passing : {X : Type 0} (test : X → Bool) (xs : List X) (at : ℕ) (x : X) → slice_get (filter test xs) at ≡ Some x → (place : ℕ) × (slice_get xs place ≡ Some x)
passing test [] at x is = cc
passing test (y ∷ xs) at x is = passing_by (test y) test y xs at x is (λ place there. passing test xs place x there)

-- the only item that is alone and passes a test is among all
only : (test : Item → Bool) (items others : List Item) (item : Item) → filter test (alone items others) ≡ item ∷ [] → (place : ℕ) × (slice_get items place ≡ Some item)
only test items others item is =
    let first = passing test (alone items others) zero item (ap (λ (xs : List Item). slice_get xs zero) is) in
    passing (λ it. is_absent it.path others) items first.0 item first.1

-- ---- nothing is reported

pub record ReportsNothing (how : Measure) (listed found : List Item) (differences : List Difference) (pairs : List FilePair) (unreadable : List SkippedEntry) : Type 0 where
  pub no_difference : filter (is_reported how found) differences ≡ []
  pub no_pair : filter (is_unchecked how listed found) pairs ≡ []
  pub no_entry : unreadable ≡ []

pub nothing : (how : Measure) (listed found : List Item) (differences : List Difference) (pairs : List FilePair) (unreadable : List SkippedEntry) (changes : List FormatChange)
    → AreFindings how listed found differences pairs unreadable changes [] → ReportsNothing how listed found differences pairs unreadable
nothing how listed found differences pairs unreadable changes are =
    let all = findings_in how listed found differences pairs unreadable changes in
    let first = map (difference_at listed found) (filter (is_reported how found) differences) in
    let second = map (unchecked_at listed) (filter (is_unchecked how listed found) pairs) in
    let third = map unreadable_at unreadable in
    let empty : all ≡ [] = nil_from_length all (sym (length_permutation all [] are.same)) in
    let but_formats = parts_none ((first ++ second) ++ third) (map format_at changes) empty in
    let but_unreadable = parts_none (first ++ second) third but_formats.0 in
    let each = parts_none first second but_unreadable.0 in
    record {
      no_difference = map_none (difference_at listed found) (filter (is_reported how found) differences) each.0;
      no_pair = map_none (unchecked_at listed) (filter (is_unchecked how listed found) pairs) each.1;
      no_entry = map_none unreadable_at unreadable but_unreadable.1;
    }

-- ---- files that nothing was reported of

truth_is : (x y : Bool) → not (same_truth x y) ≡ false → x ≡ y
truth_is true true same = refl
truth_is true false same = absurd cc
truth_is false true same = absurd cc
truth_is false false same = refl

not_false : (t : Bool) → not t ≡ false → t ≡ true
not_false true is = refl
not_false false is = absurd cc

-- what the changes say of two items
same_kinds : (a b : Item) → is_any (changes_between a b) ≡ false → is_file a.kind ≡ is_file b.kind
same_kinds a b none =
    let outer = or_parts (not (same_truth (is_file a.kind) (is_file b.kind)) || other_length a.length b.length) (other_hash a.hash b.hash) none in
    let inner = or_parts (not (same_truth (is_file a.kind) (is_file b.kind))) (other_length a.length b.length) outer.0 in
    truth_is (is_file a.kind) (is_file b.kind) inner.0

same_hashes : (a b : Item) → is_any (changes_between a b) ≡ false → both_hashed a b ≡ true → hash_bytes a.hash ≡ hash_bytes b.hash
same_hashes a b none hashed =
    let outer = or_parts (not (same_truth (is_file a.kind) (is_file b.kind)) || other_length a.length b.length) (other_hash a.hash b.hash) none in
    let kinds = and_parts (not (hash_kind_number (hash_value_kind a.hash) == 0)) (hash_kind_number (hash_value_kind a.hash) == hash_kind_number (hash_value_kind b.hash)) hashed in
    let other : not (bytes_eq (hash_bytes a.hash) (hash_bytes b.hash)) ≡ false = ap (λ (t : Bool). t && not (bytes_eq (hash_bytes a.hash) (hash_bytes b.hash))) (sym kinds.1) ∙ outer.1 in
    (bytes_eq-Decides (hash_bytes a.hash) (hash_bytes b.hash)).0 (not_false (bytes_eq (hash_bytes a.hash) (hash_bytes b.hash)) other)

module _ (listed found : List Item) (differences : List Difference) (pairs : List FilePair) (unreadable : List SkippedEntry) (report : IsReport listed found differences) (files : AreFilePairs listed found pairs)
    (none : ReportsNothing Hashes listed found differences pairs unreadable) where
  no_move : (a b : Item) → HasMoved listed found a b → ⊥
  no_move a b has =
      let here = only (bears (hash_bytes a.hash)) listed found a has.missing in
      let there = only (bears (hash_bytes a.hash)) found listed b has.new in
      none_passes (is_reported Hashes found) differences (Moved here.0 there.0) none.no_difference (report.whole (Moved here.0 there.0) (moved here.1 there.1 has)) refl

  unchanged : (l f : ℕ) (a b : Item) → slice_get listed l ≡ Some a → slice_get found f ≡ Some b → a.path ≡ b.path → (any : Bool) → is_any (changes_between a b) ≡ any → any ≡ false
  unchanged l f a b here there same true is =
      let it = Changed l f (changes_between a b) in
      absurd (none_passes (is_reported Hashes found) differences it none.no_difference (report.whole it (changed here there same is)) refl)
  unchanged l f a b here there same false is = refl

  -- files of one path have a hash of one kind, or they would be reported as unchecked
  hashed_if : (l f : ℕ) (a b : Item) → slice_get listed l ≡ Some a → slice_get found f ≡ Some b → a.path ≡ b.path → is_any (changes_between a b) ≡ false → is_file a.kind ≡ true → is_file b.kind ≡ true
      → (hashed : Bool) → both_hashed a b ≡ hashed → hashed ≡ true
  hashed_if l f a b here there same no_change one other true is = refl
  hashed_if l f a b here there same no_change one other false is =
      let pair : FilePair = record { listed = l; found = f } in
      let it : IsFilePair listed found pair = record { a = a; b = b; here = here; there = there; same = same; files = and_from (is_file a.kind) (is_file b.kind) one other } in
      let no_hash : is_hashed listed found pair ≡ false =
      ap (λ (o : Option Item). hashed_by o (slice_get found f)) here ∙ (ap (λ (o : Option Item). hashed_by (Some a) o) there ∙ is) in
      let alike : differs listed found pair ≡ false =
      ap (λ (o : Option Item). differ_by o (slice_get found f)) here ∙ (ap (λ (o : Option Item). differ_by (Some a) o) there ∙ no_change) in
      let unchecked : is_unchecked Hashes listed found pair ≡ true = and_from (not (is_hashed listed found pair)) (not (differs listed found pair)) (ap not no_hash) (ap not alike) in
      absurd (none_passes (is_unchecked Hashes listed found) pairs pair none.no_pair (files.whole pair it) unchecked)

  are_same : (l f : ℕ) (a b : Item) → slice_get listed l ≡ Some a → slice_get found f ≡ Some b → a.path ≡ b.path → AreSame a b
  are_same l f a b here there same =
      let no_change = unchanged l f a b here there same (is_any (changes_between a b)) refl in
      let kind = same_kinds a b no_change in
      let both : is_file a.kind ≡ true → both_hashed a b ≡ true = λ file. hashed_if l f a b here there same no_change file (sym kind ∙ file) (both_hashed a b) refl in
      record { path = same; kind = kind; hashed = both; hash = λ file. same_hashes a b no_change (both file) }

  listed_by : (l : ℕ) (a : Item) → slice_get listed l ≡ Some a → (absent : Bool) → is_absent a.path found ≡ absent → (f : ℕ) × (b : Item) × (slice_get found f ≡ Some b) × AreSame a b
  listed_by l a here true is =
      absurd (none_passes (is_reported Hashes found) differences (Missing l) none.no_difference (report.whole (Missing l) (missing here is (λ b has. no_move a b has))) refl)
  listed_by l a here false is =
      let there = find a.path found is in
      (there.0, there.1, there.2, are_same l there.0 a there.1 here there.2 there.3)

  pub each_listed : EachListedIsSame listed found
  each_listed = λ l a here. listed_by l a here (is_absent a.path found) refl

  found_by : (f : ℕ) (b : Item) → slice_get found f ≡ Some b → (absent : Bool) → is_absent b.path listed ≡ absent → (l : ℕ) × (a : Item) × (slice_get listed l ≡ Some a) × AreSame a b
  found_by f b there true is =
      absurd (none_passes (is_reported Hashes found) differences (New f) none.no_difference (report.whole (New f) (new there is (λ a has. no_move a b has))) refl)
  found_by f b there false is =
      let here = find b.path listed is in
      (here.0, here.1, here.2, are_same here.0 f here.1 b here.2 there (sym here.3))

  pub each_found : EachFoundIsSame listed found
  each_found = λ f b there. found_by f b there (is_absent b.path listed) refl

-- ---- what is compared is not unchecked

hashed_none : (listed found : List Item) (pairs : List FilePair) → AllByRecursion (λ pair. is_hashed listed found pair ≡ true) pairs → filter (is_unchecked Hashes listed found) pairs ≡ []
hashed_none listed found [] all = refl
hashed_none listed found (pair ∷ pairs) all =
    ap (λ (t : Bool). cond (not t && not (differs listed found pair)) (pair ∷ filter (is_unchecked Hashes listed found) pairs) (filter (is_unchecked Hashes listed found) pairs)) all.0
    ∙ hashed_none listed found pairs all.1

never_sizes : (listed found : List Item) (pairs : List FilePair) → filter (is_unchecked Sizes listed found) pairs ≡ []
never_sizes listed found [] = refl
never_sizes listed found (pair ∷ pairs) = never_sizes listed found pairs

never_moments : (listed found : List Item) (pairs : List FilePair) → filter (is_unchecked Moments listed found) pairs ≡ []
never_moments listed found [] = refl
never_moments listed found (pair ∷ pairs) = never_moments listed found pairs

pub none_unchecked : (how : Measure) (listed found : List Item) (pairs : List FilePair) → (how ≡ Hashes → AllByRecursion (λ pair. is_hashed listed found pair ≡ true) pairs)
    → filter (is_unchecked how listed found) pairs ≡ []
none_unchecked Hashes listed found pairs all = hashed_none listed found pairs (all refl)
none_unchecked Sizes listed found pairs all = never_sizes listed found pairs
none_unchecked Moments listed found pairs all = never_moments listed found pairs

pub silent : (how : Measure) (listed found : List Item) (pairs : List FilePair) → filter (is_unchecked how listed found) pairs ≡ [] → findings_in how listed found [] pairs [] [] ≡ []
silent how listed found pairs none = ap (λ (some : List FilePair). (map (unchecked_at listed) some ++ []) ++ []) none
