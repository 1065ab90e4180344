-- Flags none of which is set.
use Rattle.std.proofs.Common.{◌≡◌, ℕ, zero, suc, Bool, true, false, List, [], ◌∷◌, refl}
use Rattle.std.specs.List.{list_any}
use Rattle.droid_pronom.specs.Found.{Chosen, end, passed}
use Rattle.droid_pronom.specs.FoundWindows.{Stands}
use Rattle.droid_pronom.specs.declared.format.Format.{Format}

none_stands : (flags : List Bool) (k : ℕ) → list_any (λ (flag : Bool). flag) flags ≡ false → Stands flags k → ⊥
none_stands [] k none stands = cc
none_stands (true ∷ flags) k none stands = cc
none_stands (false ∷ flags) zero none stands = cc
none_stands (false ∷ flags) (suc k) none stands = none_stands flags k none stands

none_from : (P : ℕ → Type 0) (k : ℕ) (formats : List Format) → ((j : ℕ) → P j → ⊥) → Chosen P k formats []
none_from P k [] none = end
none_from P k (format ∷ formats) none = passed (none k) (none_from P (suc k) formats none)

-- no format is chosen
pub none_chosen : (flags : List Bool) (formats : List Format) → list_any (λ (flag : Bool). flag) flags ≡ false → Chosen (Stands flags) 0 formats []
none_chosen flags formats none = none_from (Stands flags) 0 formats (λ j stands. none_stands flags j none stands)
