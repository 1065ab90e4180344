-- No more texts, too many of them, too many bytes, and texts that fit.
use Rattle.std.proofs.Common.{ℕ, ◌≤◌, ◌++◌, List, length, refl, inl, inr, sym, ap, ◌∙◌, subst, arith}
use Rattle.std.proofs.lemmas.Bool.{eqb-true}
use Rattle.std.proofs.lemmas.List.{append-nil, nil_from_length, length-append}
use Rattle.droid_signature_pattern.specs.Texts.{total}
use Rattle.droid_signature_pattern.proofs.Totals.{is_short}
use Rattle.droid_signature_pattern.proofs.pattern_texts.PatternTexts.add_all.Goals as goal

pub returns-then-is_empty-clause-ok : goal.returns-then-is_empty-clause-ok
returns-then-is_empty-clause-ok c =
    let others = c.args.others in
    let none = nil_from_length others (eqb-true (length others) 0 (sym c.is_empty.ensures ∙ c.if-is_empty.true)) in
    sym (ap (λ l. c.args.self.now ++ l) none ∙ append-nil c.args.self.now)

pub returns-then-is_over-clause-err : goal.returns-then-is_over-clause-err
returns-then-is_over-clause-err c =
    let over = c.is_over.ensures.0 c.if-is_over.true in
    let all = length-append c.args.self.now c.args.others in
    inl (refl, omega (arith, over, all, c.len.ensures, c.len-2.ensures))

pub returns-then-are_long-clause-err : goal.returns-then-are_long-clause-err
returns-then-are_long-clause-err c =
    let long = c.are_long.ensures.0 c.if-are_long.true in
    let same = ap total (c.as_slice.ensures ∙ c.in_ok-append.ensures) in
    inr (inr (refl, omega (arith, long, same)))

pub returns-clause-bounded : goal.returns-clause-bounded
returns-clause-bounded c = λ before.
    let P : List (List ℕ) → Type 0 = λ texts. total texts ≤ 16384 in
    subst P c.as_slice.ensures (is_short c.as_slice.result.now c.are_long.result c.are_long.ensures c.if-are_long.false)
