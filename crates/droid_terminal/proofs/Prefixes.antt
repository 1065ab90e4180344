-- Paths that begin with a folder.
use Rattle.std.proofs.Common.{◌≡◌, ◌∙◌, ◌⊎◌, ◌++◌, ℕ, true, false, List, [], ◌∷◌, length, take, drop, Some, None, append-nil, refl, sym, ap, inl, inr}
use Rattle.std.specs.List.{slice_get}
use Rattle.std.specs.Str.{bytes_eq}
use Rattle.std.proofs.Math.Seq.{take-append_seam, drop-append_seam, take-length}
use Rattle.std.proofs.lemmas.List.{take-append-drop}
use Rattle.std.proofs.lemmas.Slice.Eq.{bytes_eq-Decides}
use Rattle.droid_terminal.specs.Places.{IsAtOrBelow}

-- the folder is the front of a path at or below it, and this is what follows
fronts : (path folder : List ℕ) → IsAtOrBelow path folder → take (length folder) path ≡ folder
fronts path folder (inl same) = ap (λ (p : List ℕ). take (length folder) p) same ∙ take-length folder
fronts path folder (inr below) = ap (λ (p : List ℕ). take (length folder) p) below.1 ∙ take-append_seam folder (47 ∷ below.0)

follows : (path folder : List ℕ) → IsAtOrBelow path folder → (drop (length folder) path ≡ []) ⊎ ((rest : List ℕ) × (drop (length folder) path ≡ 47 ∷ rest))
follows path folder (inl same) =
    inl (ap (λ (p : List ℕ). drop (length folder) p) (same ∙ sym (append-nil folder)) ∙ drop-append_seam folder [])
follows path folder (inr below) = inr (below.0, ap (λ (p : List ℕ). drop (length folder) p) below.1 ∙ drop-append_seam folder (47 ∷ below.0))

-- the path is its front and what follows
whole : (path folder rest : List ℕ) → bytes_eq (take (length folder) path) folder ≡ true → rest ≡ drop (length folder) path → path ≡ folder ++ rest
whole path folder rest front is =
    let same : take (length folder) path ≡ folder = (bytes_eq-Decides (take (length folder) path) folder).0 front in
    sym (take-append-drop (length folder) path) ∙ (ap (λ (p : List ℕ). p ++ drop (length folder) path) same ∙ ap (λ (p : List ℕ). folder ++ p) (sym is))

-- no front
pub not_in : (path folder : List ℕ) → bytes_eq (take (length folder) path) folder ≡ false → IsAtOrBelow path folder → ⊥
not_in path folder differs within =
    let is : bytes_eq (take (length folder) path) folder ≡ true = (bytes_eq-Decides (take (length folder) path) folder).1 (fronts path folder within) in
    let bad : true ≡ false = sym is ∙ differs in
    cc

-- nothing follows
nothing : (rest : List ℕ) → None ≡ slice_get rest 0 → rest ≡ []
nothing [] none = refl
nothing (byte ∷ rest) none = cc

pub at_folder : (path folder rest : List ℕ) → bytes_eq (take (length folder) path) folder ≡ true → rest ≡ drop (length folder) path → None ≡ slice_get rest 0 → IsAtOrBelow path folder
at_folder path folder rest front is none =
    inl (whole path folder rest front is ∙ (ap (λ (p : List ℕ). folder ++ p) (nothing rest none) ∙ append-nil folder))

-- a byte follows
something : (rest : List ℕ) (byte : ℕ) → Some byte ≡ slice_get rest 0 → (tail : List ℕ) × (rest ≡ byte ∷ tail)
something [] byte some = absurd (cc)
something (first ∷ rest) byte some = let same : first ≡ byte = cc in (rest, ap (λ (b : ℕ). b ∷ rest) same)

below_by : (path folder rest : List ℕ) (byte : ℕ) → path ≡ folder ++ rest → ((tail : List ℕ) × (rest ≡ byte ∷ tail)) → byte ≡ 47 → IsAtOrBelow path folder
below_by path folder rest byte is cut slash = inr (cut.0, is ∙ ap (λ (p : List ℕ). folder ++ p) (cut.1 ∙ ap (λ (b : ℕ). b ∷ cut.0) slash))

pub below_folder : (path folder rest : List ℕ) (byte : ℕ) → bytes_eq (take (length folder) path) folder ≡ true → rest ≡ drop (length folder) path → Some byte ≡ slice_get rest 0
    → byte ≡ 47 → IsAtOrBelow path folder
below_folder path folder rest byte front is some slash = below_by path folder rest byte (whole path folder rest front is) (something rest byte some) slash

slash_by : (rest left : List ℕ) (byte : ℕ) → left ≡ rest → ((tail : List ℕ) × (left ≡ byte ∷ tail)) → (rest ≡ []) ⊎ ((tail : List ℕ) × (rest ≡ 47 ∷ tail)) → byte ≡ 47
slash_by rest left byte same cut (inl none) = let bad : byte ∷ cut.0 ≡ [] = sym cut.1 ∙ (same ∙ none) in cc
slash_by rest left byte same cut (inr slash) = let both : byte ∷ cut.0 ≡ 47 ∷ slash.0 = sym cut.1 ∙ (same ∙ slash.1) in cc

pub slash_follows : (path folder rest : List ℕ) (byte : ℕ) → rest ≡ drop (length folder) path → Some byte ≡ slice_get rest 0 → IsAtOrBelow path folder → byte ≡ 47
slash_follows path folder rest byte is some within = slash_by (drop (length folder) path) rest byte is (something rest byte some) (follows path folder within)
