-- Which file a profile and a number find, and what a change of the list makes of that.
use Rattle.std.proofs.Common.{◌≡◌, ◌≢◌, ℕ, zero, suc, Bool, true, false, ◌<◌, ◌↔◌, ltb, cond, IfSome, List, [], ◌∷◌, ◌++◌, length, set, Option, None, Some, refl, sym, ap, ◌∙◌, inl, inr, arith}
use Rattle.std.specs.List.{find, slice_get, remove, position_or_len}
use Rattle.std.specs.Option.{option_or}
use Rattle.std.proofs.lemmas.Bool.Decides.{eqb_tells}
use Rattle.std.proofs.lemmas.Bool.{cases_Bool, le-ltb, lt-ltb}
use Rattle.std.proofs.lemmas.List.{length-set}
use Rattle.std.proofs.lemmas.List.Folds.{find_at, find_past, find-append}
use Rattle.std.proofs.lemmas.Option.{get_or_from_slice_get, slice_get_cases, slice_get_within}
use Rattle.droid_assembly.specs.State.{State}
use Rattle.droid_core.specs.Files.{OpenFile, OpenFiles, is_of, open_at, AreDistinct, IsAt, At, IsAlikeBut, IsStillOpen, with_assembly}

-- ---- one file

-- a file is that of its own number in its own profile
pub is_own : (file : OpenFile) → is_of file.profile file.file file ≡ true
is_own file =
    elim (eqb_tells file.profile file.profile) [
      | inl p ↦ elim (eqb_tells file.file file.file) [ inl n ↦ rw (p.0, n.0) refl | inr n ↦ absurd (n.1 refl) ]
      | inr p ↦ absurd (p.1 refl)
    ]

-- what a file's profile and number are
pub key_of : (profile number : ℕ) (file : OpenFile) → is_of profile number file ≡ true → (file.profile ≡ profile) × (file.file ≡ number)
key_of profile number file own =
    elim (eqb_tells file.profile profile) [
      | inl p ↦ elim (eqb_tells file.file number) [
        | inl n ↦ (p.1, n.1)
        | inr n ↦ let wrong : false ≡ true = rw (p.0, n.0) at own in cc
      ]
      | inr p ↦ let wrong : false ≡ true = rw p.0 at own in cc
    ]

-- a file of another profile, or of another number, is another file
pub other_profile : (profile number : ℕ) (file : OpenFile) → file.profile ≢ profile → is_of profile number file ≡ false
other_profile profile number file other =
    elim (eqb_tells file.profile profile) [ inl p ↦ absurd (other p.1) | inr p ↦ rw p.0 refl ]

pub other_number : (profile number : ℕ) (file : OpenFile) → file.file ≢ number → is_of profile number file ≡ false
other_number profile number file other =
    elim (cases_Bool (is_of profile number file)) [
      | inl t ↦ absurd (other (key_of profile number file t).1)
      | inr f ↦ f
    ]

-- ---- any list and any test

module _ {X : Type 0} (test : X → Bool) where
  -- none of the items passes where none is found
  none_at : (xs : List X) (k : ℕ) (x : X) → find test xs ≡ None → slice_get xs k ≡ Some x → test x ≡ false
  none_at [] k x none here = cc
  none_at (y ∷ ys) zero x none here =
      let same : y ≡ x = cc in
      elim (cases_Bool (test y)) [
        | inl t ↦ let found : Some y ≡ None = rw t at none in cc
        | inr f ↦ rw same at f
      ]
  none_at (y ∷ ys) (suc k) x none here =
      elim (cases_Bool (test y)) [
        | inl t ↦ let found : Some y ≡ None = rw t at none in cc
        | inr f ↦ let rest : find test ys ≡ None = rw f at none in none_at ys k x rest here
      ]

  -- what is found passes
  passes : (xs : List X) (x : X) → find test xs ≡ Some x → test x ≡ true
  passes [] x found = cc
  passes (y ∷ ys) x found =
      elim (cases_Bool (test y)) [
        | inl t ↦ let same : Some y ≡ Some x = rw t at found in let e : y ≡ x = cc in rw e at t
        | inr f ↦ let rest : find test ys ≡ Some x = rw f at found in passes ys x rest
      ]

  -- taking out an item that doesn't pass changes nothing
  find-remove : (xs : List X) (k : ℕ) (x : X) → slice_get xs k ≡ Some x → test x ≡ false → find test (remove xs k) ≡ find test xs
  find-remove [] k x here fails = cc
  find-remove (y ∷ ys) zero x here fails =
      let same : y ≡ x = cc in
      rw (same, fails) refl
  find-remove (y ∷ ys) (suc k) x here fails = ap (cond (test y) (Some y)) (find-remove ys k x here fails)

  -- nor does taking out any where none is found
  none-remove : (xs : List X) (k : ℕ) → find test xs ≡ None → find test (remove xs k) ≡ None
  none-remove [] zero none = refl
  none-remove [] (suc k) none = refl
  none-remove (y ∷ ys) zero none =
      elim (cases_Bool (test y)) [
        | inl t ↦ let found : Some y ≡ None = rw t at none in cc
        | inr f ↦ rw f at none
      ]
  none-remove (y ∷ ys) (suc k) none =
      elim (cases_Bool (test y)) [
        | inl t ↦ let found : Some y ≡ None = rw t at none in cc
        | inr f ↦
            let rest : find test ys ≡ None = rw f at none in
            rw f (none-remove ys k rest)
      ]

pub some_none : {X : Type 0} (x : X) → Some x ≡ None → ⊥
some_none x wrong = cc

-- the place of the first that passes, as a search gives it
pub by_place : {X : Type 0} (test : X → Bool) (xs : List X) (result : Option ℕ) → result ≡ cond (ltb (position_or_len test xs) (length xs)) (Some (position_or_len test xs)) None
    → ((result ≡ None) ↔ (find test xs ≡ None)) × IfSome result (λ place. slice_get xs place ≡ find test xs)
by_place test xs result is =
    let place = position_or_len test xs in
    elim (slice_get_cases xs place).1 [
      | inl w ↦
          let e : result ≡ Some place = is ∙ ap (λ b. cond b (Some place) None) (lt-ltb place (length xs) w.1) in
          let found : find test xs ≡ Some w.0 = find_at test xs ∙ w.2 in
          rw e ((λ wrong. absurd (some_none place wrong), λ none. absurd (some_none w.0 (sym found ∙ none))), sym (find_at test xs))
      | inr w ↦
          let e : result ≡ None = is ∙ ap (λ b. cond b (Some place) None) (le-ltb place (length xs) w.0) in
          rw e ((λ same. find_at test xs ∙ w.1, λ none. refl), tt)
    ]

pub injective_some : {X : Type 0} {x y : X} → Some x ≡ Some y → x ≡ y
injective_some e = cc

option_or_none : {X : Type 0} (o : Option X) → option_or o None ≡ o
option_or_none None = refl
option_or_none (Some x) = refl

slice_get-set : {X : Type 0} (xs : List X) (k : ℕ) (x : X) → k < length xs → slice_get (set xs k x) k ≡ Some x
slice_get-set [] k x within = absurd (omega (arith, within))
slice_get-set (y ∷ ys) zero x within = refl
slice_get-set (y ∷ ys) (suc k) x within = slice_get-set ys k x (omega (arith, within))

-- ---- the unfinished files

-- one file is not that of another's number in its profile: neither is the other
other_way : (file other : OpenFile) → is_of file.profile file.file other ≡ false → is_of other.profile other.file file ≡ false
other_way file other fails =
    elim (cases_Bool (is_of other.profile other.file file)) [
      | inl t ↦
          let key = key_of other.profile other.file file t in
          let wrong : is_of file.profile file.file other ≡ true = rw (key.0, key.1) (is_own other) in
          let no : true ≡ false = sym wrong ∙ fails in
          cc
      | inr f ↦ f
    ]

-- what is found has that profile and that number
pub key_found : (profile number : ℕ) (files : List OpenFile) (file : OpenFile) → open_at profile number files ≡ Some file → (file.profile ≡ profile) × (file.file ≡ number)
key_found profile number files file found = key_of profile number file (passes (is_of profile number) files file found)

-- the file at a place is the one that its profile and its number find
pub found_at : (files : List OpenFile) → AreDistinct files → (place : ℕ) (file : OpenFile) → IsAt files place file → open_at file.profile file.file files ≡ Some file
found_at [] distinct place file here = cc
found_at (one ∷ files) distinct zero file here =
    let same : one ≡ file = cc in
    rw (same, is_own file) refl
found_at (one ∷ files) distinct (suc place) file here =
    let rest : open_at file.profile file.file files ≡ Some file = found_at files distinct.1 place file here in
    elim (cases_Bool (is_of file.profile file.file one)) [
      | inl t ↦
          let key = key_of file.profile file.file one t in
          let none : open_at file.profile file.file files ≡ None = rw (key.0, key.1) at distinct.0 in
          let wrong : Some file ≡ None = sym rest ∙ none in
          cc
      | inr f ↦ rw f rest
    ]

-- ---- one file more

pub found_added : (profile number : ℕ) (files : List OpenFile) (file : OpenFile) → open_at profile number files ≡ None → is_of profile number file ≡ true → open_at profile number (files ++ file ∷ []) ≡ Some file
found_added profile number files file none own =
    find-append (is_of profile number) files (file ∷ []) ∙ rw (none, own) refl

pub others_added : (profile number : ℕ) (files : List OpenFile) (file : OpenFile) → is_of profile number file ≡ false → open_at profile number (files ++ file ∷ []) ≡ open_at profile number files
others_added profile number files file other =
    find-append (is_of profile number) files (file ∷ []) ∙ rw other (option_or_none (open_at profile number files))

pub distinct_added : (files : List OpenFile) (file : OpenFile) → AreDistinct files → open_at file.profile file.file files ≡ None → AreDistinct (files ++ file ∷ [])
distinct_added [] file distinct none = (refl, tt)
distinct_added (one ∷ files) file distinct none =
    elim (cases_Bool (is_of file.profile file.file one)) [
      | inl t ↦ let found : Some one ≡ None = rw t at none in cc
      | inr f ↦
          let rest : open_at file.profile file.file files ≡ None = rw f at none in
          (others_added one.profile one.file files file (other_way file one f) ∙ distinct.0, distinct_added files file distinct.1 rest)
    ]

-- ---- one file less

pub none_removed : (files : List OpenFile) → AreDistinct files → (place : ℕ) (file : OpenFile) → IsAt files place file → open_at file.profile file.file (remove files place) ≡ None
none_removed [] distinct place file here = cc
none_removed (one ∷ files) distinct zero file here =
    let same : one ≡ file = cc in
    rw same at distinct.0
none_removed (one ∷ files) distinct (suc place) file here =
    elim (cases_Bool (is_of file.profile file.file one)) [
      | inl t ↦
          let key = key_of file.profile file.file one t in
          let none : open_at file.profile file.file files ≡ None = rw (key.0, key.1) at distinct.0 in
          let wrong : Some file ≡ None = sym (found_at files distinct.1 place file here) ∙ none in
          cc
      | inr f ↦ rw f (none_removed files distinct.1 place file here)
    ]

pub others_removed : (profile number : ℕ) (files : List OpenFile) (place : ℕ) (file : OpenFile) → IsAt files place file → is_of profile number file ≡ false → open_at profile number (remove files place) ≡ open_at profile number files
others_removed profile number files place file here other = find-remove (is_of profile number) files place file here other

pub distinct_removed : (files : List OpenFile) (place : ℕ) → AreDistinct files → AreDistinct (remove files place)
distinct_removed [] zero distinct = tt
distinct_removed [] (suc place) distinct = tt
distinct_removed (one ∷ files) zero distinct = distinct.1
distinct_removed (one ∷ files) (suc place) distinct = (none-remove (is_of one.profile one.file) files place distinct.0, distinct_removed files place distinct.1)

-- ---- another assembly at a place

module _ (place : ℕ) (file : OpenFile) (assembly : State) where
  pub at_set : (files : List OpenFile) → IsAt files place file → IsAt (set files place (with_assembly file assembly)) place (with_assembly file assembly)
  at_set files here = slice_get-set files place (with_assembly file assembly) (slice_get_within files place file here)

  others_set : (profile number : ℕ) (files : List OpenFile) → IsAt files place file → is_of profile number file ≡ false → open_at profile number (set files place (with_assembly file assembly)) ≡ open_at profile number files
  others_set profile number files here other =
      find_past (is_of profile number) files place (with_assembly file assembly) file (ap (is_of profile number) (get_or_from_slice_get files place file file here) ∙ other) other

none_set : (profile number place : ℕ) (file : OpenFile) (assembly : State) (files : List OpenFile) → IsAt files place file → open_at profile number files ≡ None → open_at profile number (set files place (with_assembly file assembly)) ≡ None
none_set profile number place file assembly files here none =
    others_set place file assembly profile number files here (none_at (is_of profile number) files place file none here) ∙ none

pub distinct_set : (files : List OpenFile) (place : ℕ) (file : OpenFile) (assembly : State) → IsAt files place file → AreDistinct files → AreDistinct (set files place (with_assembly file assembly))
distinct_set [] place file assembly here distinct = tt
distinct_set (one ∷ files) zero file assembly here distinct =
    let same : one ≡ file = cc in
    (rw same at distinct.0, distinct.1)
distinct_set (one ∷ files) (suc place) file assembly here distinct =
    (none_set one.profile one.file place file assembly files here distinct.0, distinct_set files place file assembly here distinct.1)

-- ---- what is known of two lists that are alike but for one assembly

-- the file at the place is still found
pub still_open : (place : ℕ) (old new : OpenFiles) → IsAlikeBut place old new → (file : OpenFile) → IsAt old.files place file → IsStillOpen place new file
still_open place old new alike file here =
    let same : alike.before ≡ file = injective_some (sym alike.was ∙ here) in
    let files : new.files ≡ set old.files place (with_assembly file alike.after) = alike.files ∙ ap (λ one. set old.files place (with_assembly one alike.after)) same in
    let distinct : AreDistinct new.files = rw files (distinct_set old.files place file alike.after here alike.distinct) in
    let at : IsAt new.files place (with_assembly file alike.after) = rw files (at_set place file alike.after old.files here) in
    record { after = alike.after; at = at; found = found_at new.files distinct place (with_assembly file alike.after) at }

-- another file is found as before
pub others_open : (place : ℕ) (old new : OpenFiles) → IsAlikeBut place old new → (file : OpenFile) → IsAt old.files place file
    → (profile number : ℕ) → is_of profile number file ≡ false → open_at profile number new.files ≡ open_at profile number old.files
others_open place old new alike file here profile number other =
    let same : alike.before ≡ file = injective_some (sym alike.was ∙ here) in
    ap (open_at profile number) (alike.files ∙ ap (λ one. set old.files place (with_assembly one alike.after)) same)
    ∙ others_set place file alike.after profile number old.files here other

-- there are as many files as before
pub same_count : (place : ℕ) (old new : OpenFiles) → IsAlikeBut place old new → length new.files ≡ length old.files
same_count place old new alike = ap length alike.files ∙ length-set old.files place (with_assembly alike.before alike.after)

-- what holds of the assembly that it has now holds of the assembly at the place
pub at_still : (place : ℕ) (new : OpenFiles) (file : OpenFile) (still : IsStillOpen place new file) (P : State → Type 0) → P still.after → At new place P
at_still place new file still P holds one here =
    let same : with_assembly file still.after ≡ one = injective_some (sym still.at ∙ here) in
    rw (ap (λ (it : OpenFile). it.assembly) same) at holds
