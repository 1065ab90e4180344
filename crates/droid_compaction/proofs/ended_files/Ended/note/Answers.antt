use Rattle.std.proofs.Common.{rules, ◌≡◌, ◌||◌, ◌∙◌, ℕ, true, false, eqb, sym, ap}
use Rattle.droid_compaction.proofs.Noting.{noted_again, noted_end, noted_other}
use Rattle.droid_compaction.proofs.Skimming.{end_long, end_same}
use Rattle.droid_compaction.specs.Numbers.{has_number}
use Rattle.droid_compaction.proofs.ended_files.Ended.note.Goals as goal

pub returns-then-again-clause-noted : goal.returns-then-again-clause-noted
returns-then-again-clause-noted c = λ before first ahead request answer st is size.
    let self = c.args.self.now in
    let shown : c.has-again.result ≡ true = search rules in
    noted_again self.files self.stamps before st first request answer (ap (has_number self.stamps) (sym is.stamp_is) ∙ sym c.has-again.ensures ∙ shown)

pub returns-then-not-is_end-clause-noted : goal.returns-then-not-is_end-clause-noted
returns-then-not-is_end-clause-noted c = λ before first ahead request answer st is size.
    let self = c.args.self.now in
    let shown : c.has-again.result ≡ false = search rules in
    let other : c.is_end.result ≡ false = search rules in
    noted_other self.files self.stamps before st first request answer _ (ap (has_number self.stamps) (sym is.stamp_is) ∙ sym c.has-again.ensures ∙ shown)
    (λ n. c.in-Ok.ensures n ∙ ap (λ (k : ℕ). eqb k n || has_number self.stamps n) is.stamp_is) (end_same ahead request answer c.args.front c.args.reply is size ∙ sym c.is_end.ensures.test ∙ other)

pub returns-in-Ok-add-clause-noted : goal.returns-in-Ok-add-clause-noted
returns-in-Ok-add-clause-noted c = λ before first ahead request answer st is size.
    let self = c.args.self.now in
    let shown : c.has-again.result ≡ false = search rules in
    let end : c.is_end.result ≡ true = search rules in
    let file = is.file_is (end_long ahead request c.args.front is (c.is_end.ensures.least end)) in
    noted_end self.files self.stamps before st first request answer _ (ap (has_number self.stamps) (sym is.stamp_is) ∙ sym c.has-again.ensures ∙ shown)
    (λ n. c.in-Ok.ensures n ∙ ap (λ (k : ℕ). eqb k n || has_number self.stamps n) is.stamp_is) _
    (λ n. c.in-Ok-add.ensures n ∙ ap (λ (k : ℕ). eqb k n || has_number self.files n) file) (end_same ahead request answer c.args.front c.args.reply is size ∙ sym c.is_end.ensures.test ∙ end)
