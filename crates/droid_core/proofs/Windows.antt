-- What is found in the windows of a file is found in the file.
use Rattle.std.proofs.Common.{◌≡◌, ℕ, zero, suc, ◌-◌, Bool, List, [], ◌∷◌, length, take, drop, min, Result, Ok, Err, IfOk, refl, sym, ap, ◌∙◌, arith}
use Rattle.std.proofs.lemmas.List.{length-take}
use Rattle.droid_assembly.specs.Pieces.{first_window, last_window}
use Rattle.droid_pronom.specs.Found.{IsFound}
use Rattle.droid_pronom.specs.Registry.{Contents}
use Rattle.droid_pronom.specs.declared.identification.Found.{Found}

take_own : (n : ℕ) (bytes : List ℕ) → take (length (take n bytes)) bytes ≡ take n bytes
take_own zero [] = refl
take_own zero (b ∷ bytes) = refl
take_own (suc n) [] = refl
take_own (suc n) (b ∷ bytes) = ap (λ (rest : List ℕ). b ∷ rest) (take_own n bytes)

-- every file of this size with these ends has these findings
abbrev pub IsFoundByEnds : Contents → List ℕ → Bool → ℕ → List ℕ → List ℕ → Found → Type 0
IsFoundByEnds registry name match_all size first last found =
    (file : List ℕ) (scan_limit : ℕ) → length file ≡ size → min scan_limit size ≡ length first → take (length first) file ≡ first → drop (size - length first) file ≡ last → IsFound registry name file scan_limit match_all found

pub found_in_whole : {E : Type 0} (result : Result Found E) (registry : Contents) (name : List ℕ) (match_all : Bool) (file : List ℕ) (scan_limit size : ℕ) (first last : List ℕ)
    → size ≡ length file → first ≡ first_window scan_limit file → last ≡ last_window scan_limit file
    → IfOk result (IsFoundByEnds registry name match_all size first last) → IfOk result (λ found. IsFound registry name file scan_limit match_all found)
found_in_whole (Ok found) registry name match_all file scan_limit size first last whole begun ended by_ends =
    let width : length first ≡ min scan_limit (length file) = ap length begun ∙ length-take scan_limit file in
    let reached : min scan_limit size ≡ length first = ap (min scan_limit) whole ∙ sym width in
    let begins : take (length first) file ≡ first = ap (λ (xs : List ℕ). take (length xs) file) begun ∙ take_own scan_limit file ∙ sym begun in
    let left : size - length first ≡ length file - scan_limit = omega (arith, whole, width) in
    let ends : drop (size - length first) file ≡ last = ap (λ (n : ℕ). drop n file) left ∙ sym ended in
    by_ends file scan_limit (sym whole) reached begins ends
found_in_whole (Err e) registry name match_all file scan_limit size first last whole begun ended by_ends = tt
