use Rattle.std.proofs.Common.{◌≡◌, ◌<◌, [], fold, length, slice_index_or, sym, ◌∙◌, ap, arith}
use Rattle.std.proofs.lemmas.List.{take_all}
use Rattle.std.proofs.lemmas.List.Sums.{fold_more}
use Rattle.sha2.specs.Sha256.{compress}
use Rattle.droid_hash.proofs.sha256_scalar.take_blocks.Goals as goal

pub each-preserved : goal.each-preserved
each-preserved c =
    let run = c.args.run.now in
    let more : c.each.i < length run = omega arith in
    c.compress_one.ensures ∙ ap (λ b. compress c.each.state b) c.item.ensures
    ∙ ap (λ h. compress h (slice_index_or run c.each.i [])) c.each.invariant
    ∙ sym (fold_more compress c.args.state.now run c.each.i [] more)

pub returns : goal.returns
returns c =
    let run = c.args.run.now in
    c.each.invariant ∙ ap (λ r. fold compress c.args.state.now r) (take_all c.each.i run (omega arith))
