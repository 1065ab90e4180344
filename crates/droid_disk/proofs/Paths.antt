-- Paths of what is below a folder.
use Rattle.std.proofs.Common.{◌≡◌, ◌∙◌, ℕ, false, List, [], ◌∷◌, ◌++◌, refl, sym, ap}
use Rattle.std.specs.Str.{bytes_eq}
use Rattle.std.specs.Str.Pattern.{FindsTextPrefix, LacksTextAt, StripsPrefix}
use Rattle.std.proofs.lemmas.Bool.{false_from_ne_true}
use Rattle.std.proofs.lemmas.Bool.Decides.{same_from_decides}
use Rattle.std.proofs.lemmas.List.{append_cancel_left}
use Rattle.std.proofs.lemmas.Slice.Eq.{bytes_eq-Decides}
use Rattle.droid_disk.specs.FolderObservation.{folder_path}

pub path_of_top : (top path : List ℕ) → path ≡ [] → top ++ 47 ∷ [] ≡ folder_path top path
path_of_top top [] is = refl
path_of_top top (x ∷ path) is = absurd cc

pub path_below_top : (top path : List ℕ) → (path ≡ [] → ⊥) → top ++ path ≡ folder_path top path
path_below_top top [] not = absurd (not refl)
path_below_top top (x ∷ path) not = refl

-- a path that begins with the top is that of the rest behind it
pub rest_decides : (whole top path rest : List ℕ) → whole ≡ top ++ rest → bytes_eq rest path ≡ bytes_eq whole (top ++ path)
rest_decides whole top path rest is =
    let both = bytes_eq-Decides whole (top ++ path) in
    same_from_decides (bytes_eq rest path) (bytes_eq whole (top ++ path)) (bytes_eq-Decides rest path)
    (λ e. append_cancel_left top rest path (sym is ∙ both.0 e), λ e. both.1 (is ∙ ap (λ (l : List ℕ). top ++ l) e))

pub strips_decides : (whole top path rest : List ℕ) → StripsPrefix (FindsTextPrefix top) whole rest → bytes_eq rest path ≡ bytes_eq whole (top ++ path)
strips_decides whole top path rest is = rest_decides whole top path rest (is.1.1 ∙ ap (λ (l : List ℕ). top ++ l) (sym is.2))

-- and no other path is
pub begins_with_none : (whole top path : List ℕ) → LacksTextAt top whole 0 → false ≡ bytes_eq whole (top ++ path)
begins_with_none whole top path lacks = sym (false_from_ne_true (bytes_eq whole (top ++ path)) (λ e. lacks path ((bytes_eq-Decides whole (top ++ path)).0 e)))
