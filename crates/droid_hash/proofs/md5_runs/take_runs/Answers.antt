use Rattle.std.proofs.Common.{fold, take, drop, sym, ap, ◌∙◌, arith}
use Rattle.std.proofs.Math.Seq.{take-add}
use Rattle.std.proofs.lemmas.List.{take_all}
use Rattle.std.proofs.lemmas.List.Sums.{fold-append}
use Rattle.md5.specs.Md5.{compress}
use Rattle.droid_hash.specs.Lanes.{lane, piece}
use Rattle.droid_hash.proofs.md5_runs.take_runs.Goals as goal

pub parts-preserved : goal.parts-preserved
parts-preserved c = λ j low.
    let run = piece j c.args.runs in
    let h = lane j c.args.state.now in
    let part = take c.common-count.result (drop c.parts.at run) in
    c.take_part.ensures j low ∙ ap (λ v. fold compress v part) (c.parts.invariant j low)
    ∙ sym (fold-append compress h (take c.parts.at run) part) ∙ ap (fold compress h) (sym (take-add c.parts.at c.common-count.result run))

pub returns : goal.returns
returns c = λ j low.
    let run = piece j c.args.runs in
    c.parts.invariant j low ∙ ap (fold compress (lane j c.args.state.now)) (take_all c.parts.at run (omega (arith, c.longest-filler.ensures j low)))
