-- What is found at the ends of a file is found in the file.
use Rattle.std.proofs.Common.{◌≡◌, ℕ, ◌-◌, Bool, List, length, take, drop, min, Result, Ok, Err, IfOk, sym, ap, ◌∙◌}
use Rattle.droid_pronom.proofs.FoundOnce.{found_once}
use Rattle.droid_pronom.proofs.FoundTests.{found_is}
use Rattle.droid_pronom.specs.Found.{Hits, IsFound}
use Rattle.droid_pronom.specs.Registry.{Contents}
use Rattle.droid_pronom.specs.declared.identification.Found.{Found}
use Rattle.droid_hash.specs.Ends.{Ends, Came, width}
use Rattle.droid_tree.specs.declared.folder_entry.FolderEntry.{FolderEntry}
use Rattle.droid_profile.specs.Kids.{found_of}
use Rattle.droid_profile.specs.declared.options.Options.{Options}

-- every file of this size with these ends has these findings
abbrev pub IsFoundByEnds : Contents → List ℕ → Bool → ℕ → List ℕ → List ℕ → Found → Type 0
IsFoundByEnds registry name match_all size first last found =
    (file : List ℕ) (scan_limit : ℕ) → length file ≡ size → min scan_limit size ≡ length first → take (length first) file ≡ first → drop (size - length first) file ≡ last → IsFound registry name file scan_limit match_all found

module _ (registry : Contents) (options : Options) (entry : FolderEntry) (ends : Ends) (first last : List ℕ) (size : ends.size ≡ entry.len) (limit : ends.limit ≡ options.scan_limit)
    (begun : (bytes : List ℕ) → Came ends bytes → length bytes ≡ ends.size → first ≡ take (width ends) bytes)
    (ended : (bytes : List ℕ) → Came ends bytes → length bytes ≡ ends.size → last ≡ drop (ends.size - width ends) bytes)
    (counted : (bytes : List ℕ) → Came ends bytes → length bytes ≡ ends.size → length first ≡ width ends) where
  pub found_at_ends : {E : Type 0} (result : Result Found E) → IfOk result (IsFoundByEnds registry entry.name options.match_all entry.len first last)
      → IfOk result (λ found. (bytes : List ℕ) → Came ends bytes → length bytes ≡ entry.len → found ≡ found_of registry options entry bytes)
  found_at_ends (Ok found) by_ends = λ bytes came whole.
      let sized : length bytes ≡ ends.size = whole ∙ sym size in
      let long : length first ≡ width ends = counted bytes came sized in
      found_once (Hits bytes options.scan_limit) registry entry.name options.match_all found (found_of registry options entry bytes)
      (by_ends bytes options.scan_limit whole
      (ap (λ (n : ℕ). min n entry.len) (sym limit) ∙ (ap (λ (n : ℕ). min ends.limit n) (sym size) ∙ sym long))
      (ap (λ (n : ℕ). take n bytes) long ∙ sym (begun bytes came sized))
      (ap (λ (n : ℕ). drop (n - length first) bytes) (sym size) ∙ (ap (λ (n : ℕ). drop (ends.size - n) bytes) long ∙ sym (ended bytes came sized))))
      (found_is registry entry.name bytes options.scan_limit options.match_all)
  found_at_ends (Err e) by_ends = tt
