-- For inner clauses and proofs: a map that has the paths of all that is known.
use Rattle.std.specs.Prelude.{◌≡◌, ℕ, Bool, List}
use Rattle.std.specs.BTreeMap as tree
use Rattle.std.specs.Borrow.{Bor}
use Rattle.std.specs.Cmp.Lexicographic.{slice_cmp}
use Rattle.std.specs.Option.{is_some}
use Rattle.std.specs.Ordering.{nat_cmp}
use Rattle.droid_lists.specs.Differences.{is_known}
use Rattle.droid_lists.specs.declared.known.Known.{Known}
pub use Rattle.droid_lists.specs.Differences.{if_more, more_by}

-- a map has this path
abbrev pub path_in : tree.BTreeMap (Bor (List ℕ)) Bool → List ℕ → Bool
path_in paths path = is_some (tree.get_by (λ key. slice_cmp nat_cmp path key.now) paths)

-- it has exactly the paths of all that is known
abbrev pub HasPaths : tree.BTreeMap (Bor (List ℕ)) Bool → List Known → Type 0
HasPaths paths known = (path : List ℕ) → path_in paths path ≡ is_known known path
