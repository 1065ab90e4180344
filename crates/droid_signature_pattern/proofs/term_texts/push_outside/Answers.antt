-- The bytes below and those above.
use Rattle.std.proofs.Common.{◌≡◌, ◌+◌, ◌-◌, ◌++◌, ap, ◌∙◌, arith}
use Rattle.droid_signature_file.specs.Expansions.{upward}
use Rattle.droid_signature_pattern.specs.Written.{marked, next_mark, pair}
use Rattle.droid_signature_pattern.proofs.Runs.{outside_text}
use Rattle.droid_signature_pattern.proofs.term_texts.push_outside.Goals as goal

pub returns : goal.returns
returns c =
    let old = c.args.text.now.items in
    let low : c.from.result ≡ c.args.low = omega arith in
    let high : c.from-2.result ≡ c.args.high = omega arith in
    let above : c.from-3.result ≡ 255 - c.args.high = omega arith in
    let mark = c.in_ok-mark.mark in
    let second = c.in_ok-push_each.ensures.text
    ∙ ap (λ n. c.push_each.new.text.items ++ marked pair mark (upward (n + 1) c.from-3.result)) high
    ∙ ap (λ n. c.push_each.new.text.items ++ marked pair mark (upward (c.args.high + 1) n)) above in
    outside_text c.args.low c.args.high old c.push_each.new.text.items c.push_each-2.new.text.items c.push.new.self.items mark
    (c.in_ok-mark.ensures.text ∙ ap (λ n. old ++ marked pair 40 (upward 0 n)) low) (c.in_ok-mark.ensures.mark ∙ ap (next_mark 40) low) second c.in_ok-push.ensures.items
