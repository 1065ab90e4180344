-- How long a body may be, in every version.
use Rattle.std.proofs.Common.{◌≡◌, ℕ, ◌<◌, ◌≤◌, ◌^◌, Bool, true, false, cond, eqb, ◌||◌, refl, arith}
use Rattle.std.proofs.lemmas.Bool.{eqb-true}
use Rattle.droid_frame.specs.Limits.{body_limit}
use Rattle.droid_frame.specs.Versions.{IsVersion}

at_most_where : (first : Bool) → cond first 1048640 4194368 ≤ 4194368
at_most_where true = omega arith
at_most_where false = omega arith

at_least_where : (first : Bool) → 1048640 ≤ cond first 1048640 4194368
at_least_where true = omega arith
at_least_where false = omega arith

pub limit_at_most : (version : ℕ) → body_limit version ≤ 4194368
limit_at_most version = at_most_where (eqb version 1)

pub limit_at_least : (version : ℕ) → 1048640 ≤ body_limit version
limit_at_least version = at_least_where (eqb version 1)

small_where : (version : ℕ) (first second : Bool) → (first ≡ true → version ≡ 1) → (second ≡ true → version ≡ 2) → (first || second) ≡ true → version < 2 ^ 8
small_where version true second one two is = let same : version ≡ 1 = one refl in omega arith
small_where version false true one two is = let same : version ≡ 2 = two refl in omega arith
small_where version false false one two is = absurd cc

pub version_small : (version : ℕ) → IsVersion version → version < 2 ^ 8
version_small version is = small_where version (eqb version 1) (eqb version 2) (eqb-true version 1) (eqb-true version 2) is

-- no version both is one and isn't
pub version_not : (reported : Bool) → reported ≡ false → reported ≡ true → ⊥
version_not reported not is = cc
