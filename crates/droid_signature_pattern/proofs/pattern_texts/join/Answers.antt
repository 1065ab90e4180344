-- One more text, one that is too long, and texts that are so together.
use Rattle.std.proofs.Common.{◌⊎◌, ℕ, ◌<◌, ◌+◌, ◌++◌, List, length, take, inl, inr, refl, sym, ap, ◌∙◌, subst, arith}
use Rattle.std.specs.List.{Any}
use Rattle.droid_signature_pattern.specs.Outcomes.{HasLong, HasMuch}
use Rattle.droid_signature_pattern.specs.Texts.{each_behind, joined, total}
use Rattle.droid_signature_pattern.proofs.Exits.{passed_on}
use Rattle.droid_signature_pattern.proofs.Joined.{any_joined_at, joined_more}
use Rattle.droid_signature_pattern.proofs.Totals.{is_short, total_joined}
use Rattle.droid_signature_pattern.proofs.pattern_texts.join.Goals as goal

pub returns-in_err-add_behind-clause-err : goal.returns-in_err-add_behind-clause-err
returns-in_err-add_behind-clause-err c =
    let firsts = c.args.firsts.now in
    let seconds = c.args.seconds.now in
    let P : List ℕ → Type 0 = λ text. 4096 < length text in
    let Q : List ℕ → Type 0 = λ first. Any P (each_behind first seconds) in
    passed_on (λ reason. HasLong (joined firsts seconds) reason ⊎ HasMuch (joined firsts seconds) reason) (HasLong (each_behind c.as_slice.result.now seconds)) c.from_residual.result _ c.from_residual.ensures.1
    (λ reason h. inl (h.0, any_joined_at P firsts seconds c.loop-first.first-index c.first-item.result (omega arith) c.first-item.is (subst Q c.as_slice.ensures h.1))) c.in_err-add_behind.ensures.err

pub returns-then-are_long-clause-err : goal.returns-then-are_long-clause-err
returns-then-are_long-clause-err c =
    let firsts = c.args.firsts.now in
    let seconds = c.args.seconds.now in
    let more = joined_more firsts seconds c.loop-first.first-index c.first-item.result (omega arith) c.first-item.is in
    let same = ap (λ first. each_behind first seconds) c.as_slice.ensures in
    let grown = c.in_ok-add_behind.ensures.ok ∙ ap (λ l. l ++ each_behind c.as_slice.result.now seconds) c.loop-first.invariant.0 ∙ ap (λ l. joined (take c.loop-first.first-index firsts) seconds ++ l) same ∙ sym more in
    let counted = ap total (c.as_slice-in-loop-first.ensures ∙ grown) in
    let most = total_joined firsts seconds (c.loop-first.first-index + 1) in
    let long = c.are_long.ensures.0 c.if-are_long.true in
    inr (refl, omega (arith, counted, most, long))

pub loop-first-preserved : goal.loop-first-preserved
loop-first-preserved c =
    let firsts = c.args.firsts.now in
    let seconds = c.args.seconds.now in
    let more = joined_more firsts seconds c.loop-first.first-index c.first-item.result (omega arith) c.first-item.is in
    let same = ap (λ first. each_behind first seconds) c.as_slice.ensures in (
      c.in_ok-add_behind.ensures.ok ∙ ap (λ l. l ++ each_behind c.as_slice.result.now seconds) c.loop-first.invariant.0 ∙ ap (λ l. joined (take c.loop-first.first-index firsts) seconds ++ l) same ∙ sym more,
      c.in_ok-add_behind.ensures.short c.loop-first.invariant.1,
      let counted = ap total c.as_slice-in-loop-first.ensures in
          let short = is_short c.as_slice-in-loop-first.result.now c.are_long.result c.are_long.ensures c.if-are_long.false in
          omega (arith, counted, short),
    )
