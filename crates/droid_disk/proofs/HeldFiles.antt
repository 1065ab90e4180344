-- A file in a list of open files, by the path by which it was opened.
use Rattle.std.proofs.Common.{◌≡◌, ◌∙◌, ◌+◌, ◌<◌, ◌≤◌, ◌||◌, ℕ, zero, suc, Bool, true, false, List, [], ◌∷◌, ◌++◌, length, take, get_or, cond, Some, None, sym, ap, refl, arith}
use Rattle.std.specs.List.{list_any}
use Rattle.std.specs.Str.{bytes_eq}
use Rattle.std.proofs.lemmas.List.{get_or_default, take_all}
use Rattle.std.proofs.lemmas.List.Folds.{list_any_more}
use Rattle.std.proofs.lemmas.Slice.Eq.{bytes_eq-Decides}
use Rattle.droid_disk.specs.OpenFiles.{held}

-- neither of two holds
first_no : (a b : Bool) → (a || b) ≡ false → a ≡ false
first_no true b neither = absurd cc
first_no false b neither = refl

other_no : (a b : Bool) → (a || b) ≡ false → b ≡ false
other_no true b neither = absurd cc
other_no false b neither = neither

module _ {F : Type 0} (path_of : F → List ℕ) (path : List ℕ) where
  -- whether it was opened by this path
  abbrev pub is_it : F → Bool
  is_it file = bytes_eq (path_of file) path

  -- one more that was not
  pub none_more : (files : List F) (at : ℕ) (found : F) → at < length files → found ≡ get_or files at found → list_any is_it (take at files) ≡ false → is_it found ≡ false → list_any is_it (take (at + 1) files) ≡ false
  none_more files at found within is none not =
      list_any_more is_it files at found within ∙ (ap (λ (b : Bool). b || is_it (get_or files at found)) none ∙ (ap is_it (sym is) ∙ not))

  -- the first one that was
  pub held_at : (files : List F) (at : ℕ) (found file : F) → at < length files → list_any is_it (take at files) ≡ false → found ≡ get_or files at found → is_it found ≡ true → file ≡ get_or files at file → held path_of path files ≡ Some file
  held_at [] at found file within none is passes same = absurd (omega arith)
  held_at (x ∷ files) zero found file within none is passes same =
      let it : bytes_eq (path_of x) path ≡ true = ap is_it (sym is) ∙ passes in
      rw it (ap Some (sym same))
  held_at (x ∷ files) (suc at) found file within none is passes same =
      let not : bytes_eq (path_of x) path ≡ false = first_no (is_it x) (list_any is_it (take at files)) none in
      rw not (held_at files at found file (omega arith) (other_no (is_it x) (list_any is_it (take at files)) none) is passes same)

  -- none of all
  all_none : (files : List F) → list_any is_it files ≡ false → held path_of path files ≡ None
  all_none [] none = refl
  all_none (x ∷ files) none =
      let not : bytes_eq (path_of x) path ≡ false = first_no (is_it x) (list_any is_it files) none in
      rw not (all_none files (other_no (is_it x) (list_any is_it files) none))

  pub held_none : (files : List F) (at : ℕ) → length files ≤ at → list_any is_it (take at files) ≡ false → held path_of path files ≡ None
  held_none files at all none = all_none files (ap (list_any is_it) (sym (take_all at files all)) ∙ none)

  -- it was opened by this path
  held_front : (files : List F) (x file : F) (b : Bool) → bytes_eq (path_of x) path ≡ b → (held path_of path files ≡ Some file → path_of file ≡ path) → cond b (Some x) (held path_of path files) ≡ Some file → path_of file ≡ path
  held_front files x file true is rest found =
      let same : x ≡ file = cc in
      ap path_of (sym same) ∙ (bytes_eq-Decides (path_of x) path).0 is
  held_front files x file false is rest found = rest found

  pub held_path : (files : List F) (file : F) → held path_of path files ≡ Some file → path_of file ≡ path
  held_path [] file found = absurd cc
  held_path (x ∷ files) file found = held_front files x file (bytes_eq (path_of x) path) refl (held_path files file) found

-- the one that was appended
added_last : {F : Type 0} (files : List F) (added : F) → added ≡ get_or (files ++ added ∷ []) (length files) added
added_last [] added = refl
added_last (x ∷ files) added = added_last files added

pub added_there : {F : Type 0} (files after : List F) (added : F) (at : ℕ) → after ≡ files ++ added ∷ [] → at ≡ length files → added ≡ get_or after at added
added_there files after added at is last = rw (is, last) (added_last files added)

-- whatever is read at a place is the file that is there
pub same_there : {F : Type 0} (files : List F) (at : ℕ) (found file : F) → at < length files → found ≡ get_or files at found → file ≡ get_or files at file → found ≡ file
same_there files at found file within is same = is ∙ (get_or_default files at found file within ∙ sym same)
