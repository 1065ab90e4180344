-- The records of a text, with one more.
use Rattle.std.proofs.Common.{◌≡◌, ◌∙◌, ◌<◌, ◌+◌, ℕ, zero, suc, Bool, true, false, List, [], ◌∷◌, ◌++◌, append-nil, length, map, Option, Some, None, refl, sym, ap, arith}
use Rattle.std.specs.Prelude.{slice_get, if◌then◌else◌}
use Rattle.std.specs.Option.{is_some, option_and_then, option_map, option_or}
use Rattle.std.specs.Str.{bytes_eq}
use Rattle.std.proofs.lemmas.List.{length-append, map-append}
use Rattle.std.proofs.lemmas.List.Concat.{flat_map-append}
use Rattle.std.proofs.lemmas.List.Sums.{fold_push}
use Rattle.std.proofs.lemmas.Slice.Eq.{bytes_eq-Decides}
use Rattle.csv.specs.Records.{fields_of}
use Rattle.droid_hash.specs.Findings.{puids_digest}
use Rattle.droid_lists.specs.EntryMaps.{AddsEntry, Kept, StandsFor, kept_by, kept_from, kept_in, kept_of, listed_at, place_at}
use Rattle.droid_lists.specs.ProfileRows.{Entry, Found, all_rows, found_from, found_in, puids_by, rows_of}
use Rattle.droid_lists.specs.RowTests.{at, number_at}
use Rattle.droid_lists.specs.declared.entries.Entries.{Entries}
use Rattle.droid_lists.specs.declared.entries.Listed.{Listed}

-- ---- places

get_here : {A : Type 0} (xs : List A) (x : A) → slice_get (xs ++ x ∷ []) (length xs) ≡ Some x
get_here [] x = refl
get_here (y ∷ xs) x = get_here xs x

get_before : {A : Type 0} (xs : List A) (x : A) (place : ℕ) → place < length xs → slice_get (xs ++ x ∷ []) place ≡ slice_get xs place
get_before [] x place below = absurd (omega (arith, below))
get_before (y ∷ xs) x zero below = refl
get_before (y ∷ xs) x (suc place) below = get_before xs x place (omega (arith, below))

-- ---- all records

pub rows_push : (all : List Entry) (entry : Entry) → all_rows (all ++ entry ∷ []) ≡ all_rows all ++ rows_of entry
rows_push all entry = flat_map-append rows_of all (entry ∷ []) ∙ ap (λ (more : List (List (List ℕ))). all_rows all ++ more) (append-nil (rows_of entry))

pub count_push : (all : List Entry) (entry : Entry) → length (all_rows (all ++ entry ∷ [])) ≡ length (all_rows all) + length (rows_of entry)
count_push all entry = ap length (rows_push all entry) ∙ length-append (all_rows all) (rows_of entry)

kept_push : (number : ℕ) (all : List Entry) (entry : Entry)
    → kept_from number (all ++ entry ∷ []) ≡ kept_from number all ++ kept_by (record { entry = entry; number = number + length (all_rows all) }) ∷ []
kept_push number [] entry = ap (λ (n : ℕ). kept_by (record { entry = entry; number = n }) ∷ []) (let same : number ≡ number + 0 = omega arith in same)
kept_push number (first ∷ all) entry =
    let rest = kept_push (number + length (rows_of first)) all entry in
    let sum : (number + length (rows_of first)) + length (all_rows all) ≡ number + length (all_rows (first ∷ all)) = omega (arith, length-append (rows_of first) (all_rows all)) in
    ap (λ (more : List Kept). kept_by (record { entry = first; number = number }) ∷ more)
    (rest ∙ ap (λ (n : ℕ). kept_from (number + length (rows_of first)) all ++ kept_by (record { entry = entry; number = n }) ∷ []) sum)

found_push_by : (number : ℕ) (first : Entry) (more : List Entry) (path : List ℕ) (rest : Option Found) (b : Bool) → bytes_eq path (at first.first 3) ≡ b
    → found_from (number + length (rows_of first)) more path ≡ rest
    → (if b then Some (record { entry = first; number = number }) else rest) ≡ found_from number (first ∷ more) path
found_push_by number first more path rest true is same = rw is refl
found_push_by number first more path rest false is same = rw is (sym same)

or_either : (b : Bool) (x y z : Option Found) → (if b then option_or x z else option_or y z) ≡ option_or (if b then x else y) z
or_either true x y z = refl
or_either false x y z = refl

if_some : (b : Bool) (x : Found) (y z : Option Found) → (if b then Some x else option_or y z) ≡ option_or (if b then Some x else y) z
if_some true x y z = refl
if_some false x y z = refl

found_push : (number : ℕ) (all : List Entry) (entry : Entry) (path : List ℕ)
    → found_from number (all ++ entry ∷ []) path
    ≡ option_or (found_from number all path) (if bytes_eq path (at entry.first 3) then Some (record { entry = entry; number = number + length (all_rows all) }) else None)
found_push number [] entry path =
    ap (λ (n : ℕ). if bytes_eq path (at entry.first 3) then Some (record { entry = entry; number = n }) else None) (let same : number ≡ number + 0 = omega arith in same)
found_push number (first ∷ all) entry path =
    let rest = found_push (number + length (rows_of first)) all entry path in
    let sum : (number + length (rows_of first)) + length (all_rows all) ≡ number + length (all_rows (first ∷ all)) = omega (arith, length-append (rows_of first) (all_rows all)) in
    ap (λ (it : Option Found). if bytes_eq path (at first.first 3) then Some (record { entry = first; number = number }) else it)
    (rest ∙ ap (λ (n : ℕ). option_or (found_from (number + length (rows_of first)) all path) (if bytes_eq path (at entry.first 3) then Some (record { entry = entry; number = n }) else None)) sum)
    ∙ if_some (bytes_eq path (at first.first 3)) (record { entry = first; number = number }) (found_from (number + length (rows_of first)) all path)
    (if bytes_eq path (at entry.first 3) then Some (record { entry = entry; number = number + length (all_rows (first ∷ all)) }) else None)

-- ---- what is found by a path

none_of : (found : Option Found) → is_some found ≡ false → found ≡ None
none_of None is = refl
none_of (Some found) is = absurd (cc)

or_none : (x : Option Found) → x ≡ option_or x None
or_none None = refl
or_none (Some x) = refl

-- the record that is added
found_new : (all : List Entry) (entry : Entry) (path : List ℕ) → bytes_eq path (at entry.first 3) ≡ true → is_some (found_in all (at entry.first 3)) ≡ false
    → found_in (all ++ entry ∷ []) path ≡ Some (record { entry = entry; number = 2 + length (all_rows all) })
found_new all entry path is new =
    let same : path ≡ at entry.first 3 = (bytes_eq-Decides path (at entry.first 3)).0 is in
    found_push 2 all entry path ∙ rw (is, same, none_of (found_in all (at entry.first 3)) new) refl

found_old : (all : List Entry) (entry : Entry) (path : List ℕ) → bytes_eq path (at entry.first 3) ≡ false → found_in (all ++ entry ∷ []) path ≡ found_in all path
found_old all entry path is = found_push 2 all entry path ∙ rw is (sym (or_none (found_in all path)))

listed_new : (old new : Entries) (count : ℕ) (listed : Listed) (path : List ℕ) → AddsEntry old new count listed → bytes_eq path (at (fields_of listed.row) 3) ≡ true → listed_at new path ≡ Some listed
listed_new old new count listed path adds is =
    let place : place_at new path ≡ Some (length old.listed.items) = adds.places path ∙ rw is refl in
    rw (place, adds.pushed) (get_here old.listed.items listed)

listed_old_by : (old : Entries) (listed : Listed) (found : Option ℕ) → ((place : ℕ) → found ≡ Some place → place < length old.listed.items)
    → option_and_then (slice_get (old.listed.items ++ listed ∷ [])) found ≡ option_and_then (slice_get old.listed.items) found
listed_old_by old listed None within = refl
listed_old_by old listed (Some place) within = get_before old.listed.items listed place (within place refl)

listed_old : (old new : Entries) (count : ℕ) (listed : Listed) (path : List ℕ) → AddsEntry old new count listed → bytes_eq path (at (fields_of listed.row) 3) ≡ false
    → ((place : ℕ) → place_at old path ≡ Some place → place < length old.listed.items) → listed_at new path ≡ listed_at old path
listed_old old new count listed path adds is within =
    let place : place_at new path ≡ place_at old path = adds.places path ∙ rw is refl in
    rw (place, adds.pushed) (listed_old_by old listed (place_at old path) within)

-- a record and what is kept of it
pub record IsOf (listed : Listed) (first_number : ℕ) (entry : Entry) : Type 0 where
  pub row : fields_of listed.row ≡ entry.first
  pub number : listed.number ≡ first_number
  pub puids : listed.puids ≡ puids_digest (puids_by (rows_of entry))

same_kept : (listed : Listed) (number : ℕ) (entry : Entry) → IsOf listed number entry → kept_of listed ≡ kept_by (record { entry = entry; number = number })
same_kept listed number entry is = rw (is.row, is.number, is.puids) refl

found_by : (old new : Entries) (all : List Entry) (count : ℕ) (listed : Listed) (entry : Entry) (path : List ℕ) (b : Bool) → bytes_eq path (at entry.first 3) ≡ b
    → StandsFor old all → AddsEntry old new count listed → IsOf listed (2 + length (all_rows all)) entry → is_some (found_in all (at entry.first 3)) ≡ false
    → option_map kept_of (listed_at new path) ≡ option_map kept_by (found_in (all ++ entry ∷ []) path)
found_by old new all count listed entry path true is stands adds of new_path =
    let there : bytes_eq path (at (fields_of listed.row) 3) ≡ true = rw of.row is in
    ap (λ (it : Option Listed). option_map kept_of it) (listed_new old new count listed path adds there)
    ∙ (ap Some (same_kept listed (2 + length (all_rows all)) entry of) ∙ ap (λ (it : Option Found). option_map kept_by it) (sym (found_new all entry path is new_path)))
found_by old new all count listed entry path false is stands adds of new_path =
    let there : bytes_eq path (at (fields_of listed.row) 3) ≡ false = rw of.row is in
    ap (λ (it : Option Listed). option_map kept_of it) (listed_old old new count listed path adds there (stands.within path))
    ∙ (stands.listed path ∙ ap (λ (it : Option Found). option_map kept_by it) (sym (found_old all entry path is)))

within_by : (old new : Entries) (count : ℕ) (listed : Listed) (path : List ℕ) (place : ℕ) (b : Bool) → bytes_eq path (at (fields_of listed.row) 3) ≡ b
    → AddsEntry old new count listed → ((at : ℕ) → place_at old path ≡ Some at → at < length old.listed.items) → place_at new path ≡ Some place → place < length new.listed.items
within_by old new count listed path place true is adds within at_is =
    let here : Some (length old.listed.items) ≡ Some place = sym (adds.places path ∙ rw is refl) ∙ at_is in
    let same : length old.listed.items ≡ place = cc in
    omega (arith, same, ap length adds.pushed, length-append old.listed.items (listed ∷ []))
within_by old new count listed path place false is adds within at_is =
    let below = within place (sym (adds.places path ∙ rw is refl) ∙ at_is) in
    omega (arith, below, ap length adds.pushed, length-append old.listed.items (listed ∷ []))

-- one more record
pub one_added : (old new : Entries) (all : List Entry) (count : ℕ) (listed : Listed) (entry : Entry)
    → StandsFor old all → AddsEntry old new count listed → IsOf listed (2 + length (all_rows all)) entry → count ≡ length (rows_of entry)
    → is_some (found_in all (at entry.first 3)) ≡ false → StandsFor new (all ++ entry ∷ [])
one_added old new all count listed entry stands adds of counted new_path = record {
  rows = omega (arith, adds.rows, stands.rows, counted, count_push all entry);
  last = adds.last ∙ (ap (λ (row : List (List ℕ)). number_at row 0) of.row ∙ sym (fold_push (λ (last : ℕ) (it : Entry). number_at it.first 0) 0 all entry));
  kept = ap (map kept_of) adds.pushed ∙ (map-append kept_of old.listed.items (listed ∷ []) ∙ (ap (λ (it : List Kept). it ++ kept_of listed ∷ []) stands.kept
      ∙ (ap (λ (it : Kept). kept_in all ++ it ∷ []) (same_kept listed (2 + length (all_rows all)) entry of) ∙ sym (kept_push 2 all entry))));
  listed = λ path. found_by old new all count listed entry path (bytes_eq path (at entry.first 3)) refl stands adds of new_path;
  within = λ path place is. within_by old new count listed path place (bytes_eq path (at (fields_of listed.row) 3)) refl adds (stands.within path) is;
}
