-- What rows say of folders' numbers, noted in two maps.
use Rattle.std.proofs.Common.{Bor, ◌≡◌, ◌∙◌, ℕ, ◌==◌, ◌&&◌, ◌||◌, Bool, true, false, cond, not, List, [], ◌∷◌, ◌++◌, append-nil, inl, inr, ◌<◌, ◌+◌, length, drop, get_or, Option, Some, None, refl, sym, ap, subst, arith}
use Rattle.std.specs.BTreeMap as tree
use Rattle.std.specs.BTreeSet as sorted
use Rattle.std.specs.Cmp.Lexicographic.{slice_cmp}
use Rattle.std.specs.List.{AllByRecursion, list_all, list_any}
use Rattle.std.specs.Map.{lookup}
use Rattle.std.specs.Option.{option_map}
use Rattle.std.specs.Ordering.{nat_cmp}
use Rattle.std.specs.Str.{bytes_eq}
use Rattle.std.proofs.lemmas.Bool.{eqb-true}
use Rattle.std.proofs.lemmas.Bool.Decides.{nat_tests}
use Rattle.std.proofs.lemmas.List.{drop_more}
use Rattle.std.proofs.lemmas.Slice.Eq.{bytes_eq-Decides}
use Rattle.droid_frame.specs.Items.{same_truth}
use Rattle.droid_frame.specs.declared.item.Item.{Item}
use Rattle.droid_export.specs.FolderMaps.{AllNoted, AreNoted, HasIds, Holds, IsNoted, IsSaid, Noted, number_at, path_at}
use Rattle.droid_export.specs.FolderNumbers.{Saying, above_sayings, agree, column_against, contradiction_from, fit, own_sayings}
use Rattle.droid_export.specs.declared.column.Column.{Column}
use Rattle.droid_export.specs.declared.column.Column.TheVariants as columns
use Rattle.droid_export.specs.declared.reading.fault.ListFault.TheVariants as faults
use Rattle.droid_export.specs.declared.reading.folder_numbers.Folders.{Folders}
use Rattle.droid_export.specs.declared.reading.tag.Tag.{Tag}

abbrev pub says : ℕ → List ℕ → Saying
says n p = record { number = n; path = p }

-- ---- sayings among others

pub said_more : (said more : List Saying) (x : Saying) → IsSaid said x → IsSaid (said ++ more) x
said_more [] more x there = absurd there
said_more (y ∷ said) more x (inl is) = inl is
said_more (y ∷ said) more x (inr later) = inr (said_more said more x later)

pub said_last : (said : List Saying) (x : Saying) → IsSaid (said ++ x ∷ []) x
said_last [] x = inl refl
said_last (y ∷ said) x = inr (said_last said x)

all_more : (P : Saying → Type 0) (said : List Saying) (x : Saying) → AllByRecursion P said → P x → AllByRecursion P (said ++ x ∷ [])
all_more P [] x all here = (here, tt)
all_more P (y ∷ said) x all here = (all.0, all_more P said x all.1 here)

all_mapped : (P Q : Saying → Type 0) (said : List Saying) → ((x : Saying) → P x → Q x) → AllByRecursion P said → AllByRecursion Q said
all_mapped P Q [] each all = tt
all_mapped P Q (x ∷ said) each all = (each x all.0, all_mapped P Q said each all.1)

one_of_all : (P : Saying → Type 0) (said : List Saying) (x : Saying) → AllByRecursion P said → IsSaid said x → P x
one_of_all P [] x all there = absurd there
one_of_all P (y ∷ said) x all (inl is) = subst P is all.0
one_of_all P (y ∷ said) x all (inr later) = one_of_all P said x all.1 later

and_false : (a b : Bool) → b ≡ false → (a && b) ≡ false
and_false true b is = is
and_false false b is = refl

-- a test that one of them fails, or all pass
not_all : (test : Saying → Bool) (said : List Saying) (x : Saying) → IsSaid said x → test x ≡ false → list_all test said ≡ false
not_all test [] x there fails = absurd there
not_all test (y ∷ said) x (inl is) fails = rw (is, fails) refl
not_all test (y ∷ said) x (inr later) fails = and_false (test y) (list_all test said) (not_all test said x later fails)

pub all_pass : (test : Saying → Bool) (said : List Saying) → AllByRecursion (λ x. test x ≡ true) said → list_all test said ≡ true
all_pass test [] all = refl
all_pass test (x ∷ said) all = rw all.0 (all_pass test said all.1)

-- ---- when two sayings agree

eq_is : (n m : ℕ) → n ≡ m → (n == m) ≡ true
eq_is n m is = grind (arith, nat_tests)

eq_apart : (n m : ℕ) → (n ≡ m → ⊥) → (n == m) ≡ false
eq_apart n m apart = grind (arith, nat_tests)

bytes_apart : (p q : List ℕ) (test : Bool) → bytes_eq p q ≡ test → (p ≡ q → ⊥) → test ≡ false
bytes_apart p q true is apart = absurd (apart ((bytes_eq-Decides p q).0 is))
bytes_apart p q false is apart = refl

agree_by : (s t : Bool) → (s ≡ true → t ≡ true) → (t ≡ true → s ≡ true) → same_truth s t ≡ true
agree_by true t into back = into refl
agree_by false true into back = let bad : false ≡ true = back refl in cc
agree_by false false into back = refl

pub agree_is : (n m : ℕ) (p q : List ℕ) → (n ≡ m → p ≡ q) → (p ≡ q → n ≡ m) → agree (says n p) (says m q) ≡ true
agree_is n m p q into back =
    agree_by (n == m) (bytes_eq p q) (λ is. (bytes_eq-Decides p q).1 (into (eqb-true n m is))) (λ is. eq_is n m (back ((bytes_eq-Decides p q).0 is)))

other_path : (n m : ℕ) (p q : List ℕ) → n ≡ m → (p ≡ q → ⊥) → agree (says n p) (says m q) ≡ false
other_path n m p q same apart = rw (eq_is n m same) (bytes_apart p q (bytes_eq p q) refl apart)

other_number : (n m : ℕ) (p q : List ℕ) → (n ≡ m → ⊥) → p ≡ q → agree (says n p) (says m q) ≡ false
other_number n m p q apart same = rw (eq_apart n m apart) (ap not ((bytes_eq-Decides p q).1 same))

-- ---- one saying more

-- neither its number nor its path was noted
apart_number : (f : ℕ → Option (List ℕ)) (n m : ℕ) (q : List ℕ) → f n ≡ None → f m ≡ Some q → n ≡ m → ⊥
apart_number f n m q none some same = let bad : None ≡ Some q = sym none ∙ (ap f same ∙ some) in cc

apart_path : (g : List ℕ → Option ℕ) (p q : List ℕ) (m : ℕ) → g p ≡ None → g q ≡ Some m → p ≡ q → ⊥
apart_path g p q m none some same = let bad : None ≡ Some m = sym none ∙ (ap g same ∙ some) in cc

path_after : (said : List Saying) (n m : ℕ) (p q : List ℕ) (before : Option (List ℕ)) (test : Bool) → (n == m) ≡ test → cond test (Some p) before ≡ Some q
    → (before ≡ Some q → IsSaid said (says m q)) → IsSaid (said ++ says n p ∷ []) (says m q)
path_after said n m p q before true is found old =
    let number : n ≡ m = eqb-true n m is in
    let path : p ≡ q = cc in
    let same : says n p ≡ says m q = rw (number, path) refl in
    subst (λ (x : Saying). IsSaid (said ++ says n p ∷ []) x) same (said_last said (says n p))
path_after said n m p q before false is found old = said_more said (says n p ∷ []) (says m q) (old found)

number_after : (said : List Saying) (n m : ℕ) (p q : List ℕ) (before : Option ℕ) (test : Bool) → bytes_eq p q ≡ test → cond test (Some n) before ≡ Some m
    → (before ≡ Some m → IsSaid said (says m q)) → IsSaid (said ++ says n p ∷ []) (says m q)
number_after said n m p q before true is found old =
    let path : p ≡ q = (bytes_eq-Decides p q).0 is in
    let number : n ≡ m = cc in
    let same : says n p ≡ says m q = rw (number, path) refl in
    subst (λ (x : Saying). IsSaid (said ++ says n p ∷ []) x) same (said_last said (says n p))
number_after said n m p q before false is found old = said_more said (says n p ∷ []) (says m q) (old found)

pub noted_new : (f f' : ℕ → Option (List ℕ)) (g g' : List ℕ → Option ℕ) (said : List Saying) (n : ℕ) (p : List ℕ) → f n ≡ None → g p ≡ None
    → ((m : ℕ) → f' m ≡ cond (n == m) (Some p) (f m)) → ((q : List ℕ) → g' q ≡ cond (bytes_eq p q) (Some n) (g q))
    → AreNoted f g said → (list_all (agree (says n p)) said ≡ true) × AreNoted f' g' (said ++ says n p ∷ [])
noted_new f f' g g' said n p no_path no_number paths numbers are =
    let apart : (y : Saying) → IsNoted f g y → (n ≡ y.number → ⊥) × (p ≡ y.path → ⊥) =
    λ y is. (apart_number f n y.number y.path no_path is.path, apart_path g p y.path y.number no_number is.number) in
    let kept : (y : Saying) → IsNoted f g y → IsNoted f' g' y = λ y is. record {
      path = paths y.number ∙ (ap (λ (t : Bool). cond t (Some p) (f y.number)) (eq_apart n y.number (apart y is).0) ∙ is.path);
      number = numbers y.path ∙ (ap (λ (t : Bool). cond t (Some n) (g y.path)) (bytes_apart p y.path (bytes_eq p y.path) refl (apart y is).1) ∙ is.number);
    } in
    let here : IsNoted f' g' (says n p) = record {
      path = paths n ∙ ap (λ (t : Bool). cond t (Some p) (f n)) (eq_is n n refl);
      number = numbers p ∙ ap (λ (t : Bool). cond t (Some n) (g p)) ((bytes_eq-Decides p p).1 refl);
    } in (
      all_pass (agree (says n p)) said (all_mapped (IsNoted f g) (λ y. agree (says n p) y ≡ true) said
          (λ y is. agree_is n y.number p y.path (λ same. absurd ((apart y is).0 same)) (λ same. absurd ((apart y is).1 same))) are.all),
      record {
        all = all_more (IsNoted f' g') said (says n p) (all_mapped (IsNoted f g) (IsNoted f' g') said kept are.all) here;
        paths = λ m q found. path_after said n m p q (f m) (n == m) refl (sym (paths m) ∙ found) (are.paths m q);
        numbers = λ m q found. number_after said n m p q (g q) (bytes_eq p q) refl (sym (numbers q) ∙ found) (are.numbers m q);
      },
    )

-- both were noted, each with the other
pub noted_again : (f : ℕ → Option (List ℕ)) (g : List ℕ → Option ℕ) (said : List Saying) (n : ℕ) (p : List ℕ) → f n ≡ Some p → g p ≡ Some n
    → AreNoted f g said → (list_all (agree (says n p)) said ≡ true) × AreNoted f g (said ++ says n p ∷ [])
noted_again f g said n p path number are = (
  all_pass (agree (says n p)) said (all_mapped (IsNoted f g) (λ y. agree (says n p) y ≡ true) said
      (λ y is. agree_is n y.number p y.path (λ same. one_path f n y.number p y.path path is.path same) (λ same. one_number g n y.number p y.path number is.number same)) are.all),
  record {
    all = all_more (IsNoted f g) said (says n p) are.all (record { path = path; number = number });
    paths = λ m q found. said_more said (says n p ∷ []) (says m q) (are.paths m q found);
    numbers = λ m q found. said_more said (says n p ∷ []) (says m q) (are.numbers m q found);
  },
)
  where
    one_path : (f : ℕ → Option (List ℕ)) (n m : ℕ) (p q : List ℕ) → f n ≡ Some p → f m ≡ Some q → n ≡ m → p ≡ q
    one_path f n m p q first second same = let both : Some p ≡ Some q = sym first ∙ (ap f same ∙ second) in cc

    one_number : (g : List ℕ → Option ℕ) (n m : ℕ) (p q : List ℕ) → g p ≡ Some n → g q ≡ Some m → p ≡ q → n ≡ m
    one_number g n m p q first second same = let both : Some n ≡ Some m = sym first ∙ (ap g same ∙ second) in cc

-- the number was noted with another path, or the path with another number
pub path_against : (f : ℕ → Option (List ℕ)) (g : List ℕ → Option ℕ) (said : List Saying) (n : ℕ) (p q : List ℕ) → f n ≡ Some q → (p ≡ q → ⊥)
    → AreNoted f g said → list_all (agree (says n p)) said ≡ false
path_against f g said n p q known apart are =
    not_all (agree (says n p)) said (says n q) (are.paths n q known) (other_path n n p q refl apart)

pub number_against : (f : ℕ → Option (List ℕ)) (g : List ℕ → Option ℕ) (said : List Saying) (n m : ℕ) (p : List ℕ) → g p ≡ Some m → (n ≡ m → ⊥)
    → AreNoted f g said → list_all (agree (says n p)) said ≡ false
number_against f g said n m p known apart are =
    not_all (agree (says n p)) said (says m p) (are.numbers m p known) (other_number n m p p apart refl)

-- the path was noted with a number, and this number not at all
pub number_alone : (f : ℕ → Option (List ℕ)) (g : List ℕ → Option ℕ) (said : List Saying) (n m : ℕ) (p : List ℕ) → f n ≡ None → g p ≡ Some m
    → AreNoted f g said → list_all (agree (says n p)) said ≡ false
number_alone f g said n m p none known are =
    let is = one_of_all (IsNoted f g) said (says m p) are.all (are.numbers m p known) in
    number_against f g said n m p known (apart_number f n m p none is.path) are

-- a number that was noted with a path
pub noted_known : (folders : Folders) (said : List Saying) (n : ℕ) (p q : List ℕ) (same : Bool) → path_at folders n ≡ Some q → same ≡ bytes_eq q p
    → Holds folders said → Noted same folders said (says n p)
noted_known folders said n p q true is test holds =
    let path : q ≡ p = (bytes_eq-Decides q p).0 (sym test) in
    let here : path_at folders n ≡ Some p = is ∙ ap Some path in
    let noted = one_of_all (IsNoted (path_at folders) (number_at folders)) said (says n p) holds.all (holds.paths n p here) in
    noted_again (path_at folders) (number_at folders) said n p here noted.number holds
noted_known folders said n p q false is test holds =
    path_against (path_at folders) (number_at folders) said n p q is
    (λ same. let bad : true ≡ false = sym ((bytes_eq-Decides q p).1 (sym same)) ∙ sym test in cc) holds

-- ---- the maps

number_at_is : (n m : ℕ) → tree.is_at (nat_cmp n) m ≡ (n == m)
number_at_is n m = grind (arith, nat_tests)

mapped_by : {A B : Type 0} (f : A → B) (t s : Bool) (x : A) (o : Option A) → t ≡ s → option_map f (cond t (Some x) o) ≡ cond s (Some (f x)) (option_map f o)
mapped_by f true s x o is = ap (λ (b : Bool). cond b (Some (f x)) (option_map f o)) is
mapped_by f false s x o is = ap (λ (b : Bool). cond b (Some (f x)) (option_map f o)) is

pub path_updated : (before after : tree.BTreeMap ℕ (Bor (List ℕ))) (n : ℕ) (path : Bor (List ℕ)) → tree.Updates nat_cmp before after n (Some path)
    → (m : ℕ) → option_map (λ (p : Bor (List ℕ)). p.now) (tree.get nat_cmp after m) ≡ cond (n == m) (Some path.now) (option_map (λ (p : Bor (List ℕ)). p.now) (tree.get nat_cmp before m))
path_updated before after n path updates m =
    ap (option_map (λ (p : Bor (List ℕ)). p.now)) (updates.0 m)
    ∙ mapped_by (λ (p : Bor (List ℕ)). p.now) (tree.is_at (nat_cmp n) m) (n == m) path (tree.get nat_cmp before m) (number_at_is n m)

added_by : (t s a b : Bool) → t ≡ s → a ≡ b → cond t true a ≡ (b || (s || false))
added_by true s a true is same = refl
added_by true s a false is same = rw (sym is) refl
added_by false s a true is same = same
added_by false s a false is same = rw (sym is) same

any_at_end : (q id : ℕ) (ids : List ℕ) → list_any (λ x. x == q) (ids ++ id ∷ []) ≡ (list_any (λ x. x == q) ids || ((id == q) || false))
any_at_end q id [] = refl
any_at_end q id (x ∷ ids) = or_more (x == q) (list_any (λ y. y == q) ids) ((id == q) || false) (list_any (λ y. y == q) (ids ++ id ∷ [])) (any_at_end q id ids)
  where
    or_more : (a b c all : Bool) → all ≡ (b || c) → (a || all) ≡ ((a || b) || c)
    or_more true b c all is = refl
    or_more false b c all is = is

pub one_id_more : (before after : sorted.BTreeSet ℕ) (id : ℕ) (ids : List ℕ) → sorted.Updates nat_cmp before after id true → HasIds before ids → HasIds after (ids ++ id ∷ [])
one_id_more before after id ids updates has = λ q.
    updates.0 q
    ∙ (added_by (tree.is_at (nat_cmp id) q) (id == q) (sorted.contains nat_cmp before q) (list_any (λ x. x == q) ids) (number_at_is id q) (has q)
    ∙ sym (any_at_end q id ids))

-- ---- before the first row

none_some : {A : Type 0} (o : Option A) (x : A) → o ≡ None → o ≡ Some x → ⊥
none_some o x none some = let bad : None ≡ Some x = sym none ∙ some in cc

pub ids_none : (set : sorted.BTreeSet ℕ) → sorted.IsEmpty set → HasIds set []
ids_none set empty = λ id. ap (λ (keys : List ℕ). list_any (tree.is_at (nat_cmp id)) keys) empty

pub nothing_noted : (folders : Folders) → tree.IsEmpty folders.numbers → tree.IsEmpty folders.paths → Holds folders []
nothing_noted folders no_numbers no_paths = record {
  all = tt;
  paths = λ n p found. none_some (path_at folders n) p (ap (λ (es : List (ℕ × Bor (List ℕ))). option_map (λ (path : Bor (List ℕ)). path.now) (lookup (tree.is_at (nat_cmp n)) es)) no_numbers) found;
  numbers = λ n p found. none_some (number_at folders p) n (ap (λ (es : List (Bor (List ℕ) × ℕ)). lookup (tree.is_at (λ (key : Bor (List ℕ)). slice_cmp nat_cmp p key.now)) es) no_paths) found;
}

-- ---- none, or one

pub none_more : (folders : Folders) (said : List Saying) → Holds folders said → AllNoted true folders said []
none_more folders said holds = (refl, subst (λ (all : List Saying). Holds folders all) (sym (append-nil said)) holds)

pub one_more : (agrees : Bool) (folders : Folders) (said : List Saying) (x : Saying) → Noted agrees folders said x → AllNoted agrees folders said (x ∷ [])
one_more true folders said x noted = (rw noted.0 refl, noted.1)
one_more false folders said x noted = rw noted refl

-- ---- a row

twice_by : (seen : Bool) (first : Bool) → first ≡ not seen → first ≡ false → seen ≡ true
twice_by true first is none = refl
twice_by false first is none = let bad : false ≡ true = sym none ∙ is in cc

once_by : (seen : Bool) (first : Bool) → first ≡ not seen → first ≡ true → seen ≡ false
once_by false first is some = refl
once_by true first is some = let bad : true ≡ false = sym some ∙ is in cc

pub id_twice : (set : sorted.BTreeSet ℕ) (seen : List ℕ) (said : List Saying) (item : Item) (tag : Tag) (first : Bool) → first ≡ not (sorted.contains nat_cmp set tag.id) → first ≡ false
    → HasIds set seen → column_against seen said item tag ≡ Some columns.Id
id_twice set seen said item tag first is none has = rw (sym (has tag.id) ∙ twice_by (sorted.contains nat_cmp set tag.id) first is none) refl

pub id_once : (set : sorted.BTreeSet ℕ) (seen : List ℕ) (tag : Tag) (first : Bool) → first ≡ not (sorted.contains nat_cmp set tag.id) → first ≡ true
    → HasIds set seen → list_any (λ id. id == tag.id) seen ≡ false
id_once set seen tag first is some has = sym (has tag.id) ∙ once_by (sorted.contains nat_cmp set tag.id) first is some

pub own_against : (seen : List ℕ) (said : List Saying) (item : Item) (tag : Tag) → list_any (λ id. id == tag.id) seen ≡ false → fit said (own_sayings item tag) ≡ false
    → column_against seen said item tag ≡ Some columns.Id
own_against seen said item tag new own = rw (new, own) refl

pub above_against : (seen : List ℕ) (said : List Saying) (item : Item) (tag : Tag) → list_any (λ id. id == tag.id) seen ≡ false → fit said (own_sayings item tag) ≡ true
    → fit (said ++ own_sayings item tag) (above_sayings item tag) ≡ false → column_against seen said item tag ≡ Some columns.ParentId
above_against seen said item tag new own above = rw (new, own, above) refl

pub none_against : (seen : List ℕ) (said : List Saying) (item : Item) (tag : Tag) → list_any (λ id. id == tag.id) seen ≡ false → fit said (own_sayings item tag) ≡ true
    → fit (said ++ own_sayings item tag) (above_sayings item tag) ≡ true → column_against seen said item tag ≡ None
none_against seen said item tag new own above = rw (new, own, above) refl

-- ---- row by row

-- what comes of the rows from here on, if none contradicted those before
pub row_found : (seen : List ℕ) (said : List Saying) (items later : List Item) (tags rest : List Tag) (item : Item) (tag : Tag) (column : Column) → items ≡ item ∷ later → tags ≡ tag ∷ rest
    → column_against seen said item tag ≡ Some column → contradiction_from seen said items tags ≡ Some (faults.Contradiction tag.number column)
row_found seen said items later tags rest item tag column are they found = rw (are, they, found) refl

pub row_passed : (seen : List ℕ) (said : List Saying) (items later : List Item) (tags rest : List Tag) (item : Item) (tag : Tag) → items ≡ item ∷ later → tags ≡ tag ∷ rest
    → column_against seen said item tag ≡ None
    → contradiction_from seen said items tags ≡ contradiction_from (seen ++ tag.id ∷ []) ((said ++ own_sayings item tag) ++ above_sayings item tag) later rest
row_passed seen said items later tags rest item tag are they none = rw (are, they, none) refl

-- the same at a place
pub found_at : (seen : List ℕ) (said : List Saying) (items : List Item) (tags : List Tag) (place : ℕ) (item : Item) (tag d : Tag) (column : Column) → place < length items → place < length tags
    → item ≡ get_or items place item → tag ≡ get_or tags place d → column_against seen said item tag ≡ Some column
    → contradiction_from seen said (drop place items) (drop place tags) ≡ Some (faults.Contradiction tag.number column)
found_at seen said items tags place item tag d column in_items in_tags is they found =
    row_found seen said (drop place items) (drop (place + 1) items) (drop place tags) (drop (place + 1) tags) item tag column
    (drop_more items place item in_items ∙ ap (λ (i : Item). i ∷ drop (place + 1) items) (sym is)) (drop_more tags place d in_tags ∙ ap (λ (t : Tag). t ∷ drop (place + 1) tags) (sym they)) found

pub passed_at : (seen : List ℕ) (said : List Saying) (items : List Item) (tags : List Tag) (place : ℕ) (item : Item) (tag d : Tag) → place < length items → place < length tags
    → item ≡ get_or items place item → tag ≡ get_or tags place d → column_against seen said item tag ≡ None
    → contradiction_from seen said (drop place items) (drop place tags)
    ≡ contradiction_from (seen ++ tag.id ∷ []) ((said ++ own_sayings item tag) ++ above_sayings item tag) (drop (place + 1) items) (drop (place + 1) tags)
passed_at seen said items tags place item tag d in_items in_tags is they none =
    row_passed seen said (drop place items) (drop (place + 1) items) (drop place tags) (drop (place + 1) tags) item tag
    (drop_more items place item in_items ∙ ap (λ (i : Item). i ∷ drop (place + 1) items) (sym is)) (drop_more tags place d in_tags ∙ ap (λ (t : Tag). t ∷ drop (place + 1) tags) (sym they)) none

pub no_more_tags : (seen : List ℕ) (said : List Saying) (items : List Item) (tags : List Tag) → tags ≡ [] → contradiction_from seen said items tags ≡ None
no_more_tags seen said [] tags none = refl
no_more_tags seen said (item ∷ items) tags none = rw none refl

pub no_more_items : (seen : List ℕ) (said : List Saying) (items : List Item) (tags : List Tag) → items ≡ [] → contradiction_from seen said items tags ≡ None
no_more_items seen said items tags none = rw none refl
