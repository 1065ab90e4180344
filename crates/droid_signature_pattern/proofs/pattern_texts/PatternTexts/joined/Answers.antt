-- More than 64 texts, or at most 64.
use Rattle.std.proofs.Common.{ℕ, ◌≤◌, List, length, refl, inl, sym, ap, ◌∙◌, subst}
use Rattle.droid_signature_pattern.specs.Texts.{joined}
use Rattle.droid_signature_pattern.proofs.Joined.{few_pairs, length_joined, many_pairs}
use Rattle.droid_signature_pattern.proofs.pattern_texts.PatternTexts.joined.Goals as goal

pub returns-then-are_many-clause-err : goal.returns-then-are_many-clause-err
returns-then-are_many-clause-err c =
    let own = c.args.self.now in
    let others = c.args.others.now in
    inl (refl, many_pairs (length own) (length others) c.len.result c.len-2.result (length (joined own others)) c.are_many.result c.are_many.ensures c.if-are_many.true c.len.ensures c.len-2.ensures (length_joined own others))

pub returns-clause-small : goal.returns-clause-small
returns-clause-small c =
    let own = c.args.self.now in
    let others = c.args.others.now in
    let few = few_pairs (length own) (length others) c.len.result c.len-2.result (length (joined own others)) c.are_many.result c.are_many.ensures c.if-are_many.false c.len.ensures c.len-2.ensures (length_joined own others) in
    let all = c.in_ok-texts.ensures.ok ∙ ap (λ l. joined l c.as_slice-2.result.now) c.as_slice.ensures ∙ ap (joined own) c.as_slice-2.ensures in
    let P : List (List ℕ) → Type 0 = λ l. length l ≤ 64 in
    record { few = subst P (sym all) few; short = c.in_ok-texts.ensures.short; bounded = c.in_ok-texts.ensures.bounded }
