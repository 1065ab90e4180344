-- A tally of lines, and of one line more.
use Rattle.std.proofs.Common.{◌≡◌, ◌+◌, ◌≤◌, ◌∙◌, ℕ, Bool, true, false, cond, List, [], ◌∷◌, ◌++◌, sym, ap, arith, length-append}
use Rattle.std.specs.List.{count_by}
use Rattle.std.proofs.lemmas.List.Sums.{sum_by-append}
use Rattle.droid_lines.specs.declared.tally.Tally.{Tally}
use Rattle.droid_lines.specs.Tallies.{Counts, with_one_more}

count_push : (is_bad : List ℕ → Bool) (lines : List (List ℕ)) (line : List ℕ) → count_by is_bad (lines ++ line ∷ []) ≡ count_by is_bad lines + cond (is_bad line) 1 0
count_push is_bad lines line =
    let joined = sum_by-append (λ (l : List ℕ). cond (is_bad l) 1 0) lines (line ∷ []) in
    omega (arith, joined)

-- the lines and one more
pub counts_one_more : (is_bad : List ℕ → Bool) (tally : Tally) (lines : List (List ℕ)) (line : List ℕ)
    → Counts is_bad tally lines → Counts is_bad (with_one_more (is_bad line) tally) (lines ++ line ∷ [])
counts_one_more is_bad tally lines line so_far = record {
  lines_are = omega (arith, so_far.lines_are, length-append lines (line ∷ []));
  bad_are = ap (λ (n : ℕ). n + cond (is_bad line) 1 0) so_far.bad_are ∙ sym (count_push is_bad lines line);
}

one_at_most : (b : Bool) → cond b 1 0 ≤ 1
one_at_most true = omega arith
one_at_most false = omega arith

-- no more lines are bad than there are
pub bad_within : (is_bad : Bool) (tally : Tally) → tally.bad ≤ tally.lines → (with_one_more is_bad tally).bad ≤ (with_one_more is_bad tally).lines
bad_within is_bad tally within = omega (arith, within, one_at_most is_bad)
