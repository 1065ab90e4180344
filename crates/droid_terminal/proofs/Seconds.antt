-- How many lines come in a second.
use Rattle.std.proofs.Common.{◌≡◌, ℕ, ◌+◌, ◌-◌, ◌*◌, ◌<◌, ◌≤◌, max, Bool, true, false, cond, List, [], ◌∷◌, count_by, if◌then◌else◌, nat_le, nat_lt, refl, arith}
use Rattle.std.proofs.lemmas.List.Sums.{sum_by-cons}
use Rattle.std.proofs.lemmas.Bool.{leb-true, ltb-true, and_parts, false≢true}
use Rattle.droid_terminal.specs.Rhythms.{is_due, reported_at, is_within, TenLinesASecond}
use Rattle.droid_terminal.specs.declared.verbosity.Verbosity.{Verbosity}
use Rattle.droid_terminal.specs.declared.verbosity.Verbosity.TheVariants.{Quiet, Lines, Terminal}

-- a line comes at least a tenth of a second after the one before
due_later : (verbosity : Verbosity) (reported now : ℕ) → is_due verbosity reported now ≡ true → reported + 100 ≤ now
due_later Quiet reported now due = absurd (false≢true due)
due_later Lines reported now due = omega (arith, leb-true 10_000 (now - reported) due)
due_later Terminal reported now due = omega (arith, leb-true 100 (now - reported) due)

-- a moment is within the second, or it isn't
within_bounds : (from now : ℕ) → is_within from now ≡ true → (from ≤ now) × (now < from + 1_000)
within_bounds from now within =
    let parts = and_parts (nat_le from now) (nat_lt now (from + 1_000)) within in
    (leb-true from now parts.0, ltb-true now (from + 1_000) parts.1)

-- one more moment, which is no earlier than this one
one_more : (from low now count counted : ℕ) (within : Bool) → (within ≡ true → (from ≤ now) × (now < from + 1_000)) → low ≤ now
    → counted ≡ cond within 1 0 + count → count * 100 ≤ from + 1_099 - max (now + 100) from → counted * 100 ≤ from + 1_099 - max low from
one_more from low now count counted true bounds late its few =
    let both = bounds refl in
    let first : from ≤ now = both.0 in
    let last : now < from + 1_000 = both.1 in
    let more : counted ≡ 1 + count = its in
    omega arith
one_more from low now count counted false bounds late its few =
    let same : counted ≡ 0 + count = its in
    omega arith

one_asked : (verbosity : Verbosity) (from reported now : ℕ) (moments : List ℕ) (due : Bool) → is_due verbosity reported now ≡ due
    → count_by (is_within from) (reported_at verbosity now moments) * 100 ≤ from + 1_099 - max (now + 100) from
    → count_by (is_within from) (reported_at verbosity reported moments) * 100 ≤ from + 1_099 - max (reported + 100) from
    → count_by (is_within from) (if due then now ∷ reported_at verbosity now moments else reported_at verbosity reported moments) * 100 ≤ from + 1_099 - max (reported + 100) from
one_asked verbosity from reported now moments true due after same =
    one_more from (reported + 100) now (count_by (is_within from) (reported_at verbosity now moments)) _ (is_within from now) (within_bounds from now) (due_later verbosity reported now due)
    (sum_by-cons (λ at. cond (is_within from at) 1 0) now (reported_at verbosity now moments)) after
one_asked verbosity from reported now moments false due after same = same

few_from : (verbosity : Verbosity) (from reported : ℕ) (moments : List ℕ) → count_by (is_within from) (reported_at verbosity reported moments) * 100 ≤ from + 1_099 - max (reported + 100) from
few_from verbosity from reported [] = omega arith
few_from verbosity from reported (now ∷ moments) =
    one_asked verbosity from reported now moments (is_due verbosity reported now) refl (few_from verbosity from now moments) (few_from verbosity from reported moments)

pub ten_lines : TenLinesASecond
unfolding TenLinesASecond
ten_lines verbosity reported from moments = omega (arith, few_from verbosity from reported moments)
