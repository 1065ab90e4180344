-- The order of names: by their bytes.
use Rattle.std.specs.Prelude.{◌≡◌, ℕ, List}
use Rattle.std.specs.Ordering.{nat_cmp}
use Rattle.std.specs.Cmp.Lexicographic.{slice_cmp}
use Rattle.std.specs.declared.cmp.Ordering.TheVariants.{Less}

-- the first differing byte decides; if there is none, the shorter name comes first
abbrev pub IsBefore : List ℕ → List ℕ → Type 0
IsBefore first second = slice_cmp nat_cmp first second ≡ Less
