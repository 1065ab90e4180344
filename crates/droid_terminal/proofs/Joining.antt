-- How wide a line is.
use Rattle.std.proofs.Common.{◌≡◌, ℕ, ◌≤◌, Bool, true, false, List, ◌++◌, length, codes, ◌==◌, nat_le, if◌then◌else◌, refl}
use Rattle.std.proofs.lemmas.Bool.{leb-true}
use Rattle.droid_terminal.specs.Cuts.{columns_of}
use Rattle.droid_terminal.specs.Lines.{joined_text}

either_fits : (test : Bool) (first second : List ℕ) (columns : ℕ) → (test ≡ true → columns_of first ≤ columns) → columns_of second ≤ columns
    → columns_of (if test then first else second) ≤ columns
either_fits true first second columns one other = one refl
either_fits false first second columns one other = other

pub joined_fits : (columns : ℕ) (far end : List ℕ) → columns_of far ≤ columns → columns_of (joined_text columns far end) ≤ columns
unfolding joined_text
joined_fits columns far end fits =
    let whole = far ++ (codes ": " ++ end) in
    either_fits (length end == 0) far _ columns (λ _. fits)
    (either_fits (nat_le (columns_of whole) columns) whole far columns (λ e. leb-true (columns_of whole) columns e) fits)
