use Rattle.std.proofs.Common.{◌∙◌, ℕ, List, drop, length, refl, slice_index, sym, ap, arith}
use Rattle.droid_compaction.proofs.Skimming.{enough, front_right, not_both, number_in, size_is}
use Rattle.droid_compaction.proofs.skim.front_in.Goals as goal

pub returns-then-bytes-least-clause-there : goal.returns-then-bytes-least-clause-there
returns-then-bytes-least-clause-there c = λ key place it rest form fit is.
    let ahead = c.ahead_in-ahead.ensures.there key place it rest 80 form (omega arith) is in
    absurd (omega (arith, enough key place it rest fit c.args.bytes.now is, ahead, c.if-bytes-least.true))

pub returns-in_default-clause-there : goal.returns-in_default-clause-there
returns-in_default-clause-there c = λ key place it rest form fit is.
    let ahead = c.ahead_in-ahead.ensures.there key place it rest 80 form (omega arith) is in
    let lengths = c.split_at.ensures.back ∙ ap (λ (n : ℕ). drop n c.args.bytes.now) ahead in
    not_both c.length_in.result (length it.request) c.in_default.is (c.length_in.ensures ∙ ap number_in lengths ∙ size_is key place it rest fit c.args.bytes.now is)

pub returns-clause-there : goal.returns-clause-there
returns-clause-there c = λ key place it rest form fit is.
    let ahead = c.ahead_in-ahead.ensures.there key place it rest 80 form (omega arith) is in
    let lengths = c.split_at.ensures.back ∙ ap (λ (n : ℕ). drop n c.args.bytes.now) ahead in
    let own = c.split_at-2.result.1.now in
    front_right key place it rest fit c.args.bytes.now is c.split_at.result.1.now own
    (record { ahead = c.ahead_in-ahead.result; request = c.in-Some.request; kind = slice_index own 1; stamp = c.stamp_of.result; file = c.file_of.result })
    lengths (c.split_at-2.ensures.back ∙ ap (λ (t : List ℕ). drop 4 t) lengths) ahead (sym c.length_in.ensures ∙ c.in-Some.is) refl c.stamp_of.ensures c.file_of.ensures

pub returns-clause-none : goal.returns-clause-none
returns-clause-none c = λ few. absurd (omega (arith, few, c.if-bytes-least.false, c.ahead_in-ahead.ensures.least))
