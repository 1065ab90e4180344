-- A text that is too long.
use Rattle.std.proofs.Common.{ℕ, ◌<◌, ◌++◌, List, length, subst, arith}
use Rattle.droid_signature_pattern.specs.Outcomes.{HasLong}
use Rattle.droid_signature_pattern.specs.Texts.{IsLong, each_behind}
use Rattle.droid_signature_pattern.proofs.Exits.{any_map, passed_on}
use Rattle.droid_signature_pattern.proofs.pattern_texts.add_behind.Goals as goal

pub returns-in_err-text-clause-err : goal.returns-in_err-text-clause-err
returns-in_err-text-clause-err c =
    let first = c.args.first.now in
    let seconds = c.args.seconds.now in
    let P : List ℕ → Type 0 = λ text. 4096 < length text in
    let Q : List ℕ → Type 0 = λ second. 4096 < length (first ++ second) in
    passed_on (HasLong (each_behind first seconds)) (IsLong (first ++ c.as_slice.result.now)) c.from_residual.result _ c.from_residual.ensures.1
    (λ reason h. (h.0, any_map P (λ second. first ++ second) seconds c.loop-second.second-index c.second-item.result (omega arith) c.second-item.is (subst Q c.as_slice.ensures h.1))) c.in_err-text.ensures.err
