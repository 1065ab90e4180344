-- The files that two inventories have under one path are those of their pairs.
use Rattle.std.proofs.Common.{◌≡◌, ◌∙◌, ℕ, Bool, true, false, ◌&&◌, List, map, Option, Some, None, refl, sym, ap, subst, arith}
use Rattle.std.specs.List.{AllByRecursion, filter_map, slice_get}
use Rattle.std.specs.Prelude.{if◌then◌else◌}
use Rattle.droid_fixity.specs.FilePairs.{AreFilePairs, IsFilePair}
use Rattle.droid_fixity.specs.Holding.{file_pair, pair_at, pair_if}
use Rattle.droid_fixity.specs.Inventories.{AreInOrder}
use Rattle.droid_frame.specs.Filters.{is_file}
use Rattle.droid_fixity.specs.Pairing.{Merges}
use Rattle.droid_fixity.specs.Reports.{is_absent, path_at}
use Rattle.droid_frame.specs.declared.item.Item.{Item}
use Rattle.droid_fixity.specs.declared.pair.FilePair.{FilePair}
use Rattle.droid_fixity.specs.declared.pair.Pair.{Pair}
use Rattle.droid_fixity.proofs.Order.{absent_there, same_place}
use Rattle.droid_fixity.proofs.Pairs.{IsPair, Pairs, agree_start, all_right, each_listed, in_list, in_order, is_both, is_found, is_listed, pair_path, pairs_merge, paths}
use Rattle.droid_fixity.proofs.Passing.{AnyByRecursion, any_with_all, given_all, given_is_there}
use Rattle.droid_fixity.proofs.Whole.{one_item, order_given}

-- a file pair, and its path
abbrev IsFileAt : List Item → List Item → List ℕ → FilePair → Type 0
IsFileAt all others path file = IsFilePair all others file × (path_at all file.listed ≡ path)

-- what a pair gives is a pair of files
both_files : (all others : List Item) (l f : ℕ) (a b : Item) (file : FilePair) → slice_get all l ≡ Some a → slice_get others f ≡ Some b → a.path ≡ b.path
    → (t : Bool) → (is_file a.kind && is_file b.kind) ≡ t → (if t then Some (pair_at l f) else None) ≡ Some file → IsFileAt all others (path_at all l) file
both_files all others l f a b file here there same true files is =
    let it : pair_at l f ≡ file = cc in
    subst (IsFileAt all others (path_at all l)) it (record { a = a; b = b; here = here; there = there; same = same; files = files }, refl)
both_files all others l f a b file here there same false files is = cc

file_right : (all others : List Item) (pair : Pair) (file : FilePair) → IsPair all others pair → file_pair all others pair ≡ Some file → IsFileAt all others (pair_path all others pair) file
file_right all others pair file (is_both {l = l} {f = f} a b here there same) is =
    both_files all others l f a b file here there same (is_file a.kind && is_file b.kind) refl
    (sym (ap (λ (o : Option Item). pair_if o (slice_get others f) l f) here ∙ ap (λ (o : Option Item). pair_if (Some a) o l f) there) ∙ is)
file_right all others pair file (is_listed a here absent) is = cc
file_right all others pair file (is_found b there absent) is = cc

-- a pair of files is what its pair gives
file_there : (all others : List Item) (file : FilePair) → AreInOrder (paths others) → IsFilePair all others file
    → (pair : Pair) → in_list pair ≡ Some file.listed → IsPair all others pair → file_pair all others pair ≡ Some file
file_there all others file down it pair place (is_both {l = k} {f = g} c e lies other equal) =
    let one = one_item all k file.listed c it.a place lies it.here in
    let path : e.path ≡ it.b.path = sym equal ∙ (ap (λ (item : Item). item.path) one.1 ∙ it.same) in
    let two : g ≡ file.found = same_place others g file.found e it.b down other it.there path in
    let gives : pair_if (slice_get all file.listed) (slice_get others file.found) file.listed file.found ≡ Some file =
    ap (λ (o : Option Item). pair_if o (slice_get others file.found) file.listed file.found) it.here
    ∙ (ap (λ (o : Option Item). pair_if (Some it.a) o file.listed file.found) it.there
    ∙ ap (λ (t : Bool). if t then Some (pair_at file.listed file.found) else None) it.files) in
    rw (one.0, two) gives
file_there all others file down it pair place (is_listed {l = k} c lies absent) =
    let one = one_item all k file.listed c it.a place lies it.here in
    let not_there : is_absent c.path others ≡ false = absent_there c.path others file.found it.b it.there (ap (λ (item : Item). item.path) one.1 ∙ it.same) in
    let bad : true ≡ false = sym absent ∙ not_there in
    cc
file_there all others file down it pair place (is_found e other absent) = cc

pub files_are : (all others : List Item) (pairs : List Pair) → Merges 0 0 all others pairs → AreInOrder (paths all) → AreInOrder (paths others)
    → AreFilePairs all others (filter_map (file_pair all others) pairs)
files_are all others pairs merges up down =
    let merged : Pairs all others 0 0 all others pairs = pairs_merge merges all others refl refl up down (agree_start all others) (agree_start others all) in
    let right = all_right all others merged in
    record {
      right = given_all (IsFilePair all others) (IsPair all others) (file_pair all others) pairs (λ pair file is gives. (file_right all others pair file is gives).0) right;
      whole = λ file it. given_is_there (file_pair all others) pairs file
          (any_with_all (λ pair. in_list pair ≡ Some file.listed) (IsPair all others) (λ pair. file_pair all others pair ≡ Some file) pairs
          (file_there all others file down it) (each_listed all others merged refl file.listed it.a (omega arith) it.here) right);
      in_order = order_given (IsPair all others) (pair_path all others) (λ file. path_at all file.listed) (file_pair all others) pairs (λ pair file is gives. (file_right all others pair file is gives).1) right (in_order all others merged);
    }
