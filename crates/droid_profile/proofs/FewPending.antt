-- Few lines are pending.
use Rattle.std.proofs.Common.{ℕ, ◌<◌, List, length, Option, Some, None}
use Rattle.droid_profile.specs.Taking.{FewLines}

pub few_lines : {M : Type 0} (manifest : Option M) (lines : List ℕ) → length lines < 65536 → FewLines manifest lines
few_lines None lines few = tt
few_lines (Some writer) lines few = few
