-- For inner clauses and proofs: which numbers were seen.
use Rattle.std.specs.Prelude.{ℕ, Bool}
use Rattle.std.specs.BTreeSet.{contains}
use Rattle.std.specs.Ordering.{nat_cmp}
use Rattle.droid_compaction.specs.declared.numbers.Numbers.{Numbers}

-- this number was seen
abbrev pub has_number : Numbers → ℕ → Bool
has_number numbers n = contains nat_cmp numbers.set n
