-- One more fragment, and all of them.
use Rattle.std.proofs.Common.{◌≡◌, ◌+◌, drop, sym, ap, ◌∙◌, arith}
use Rattle.std.specs.Prelude.{max}
use Rattle.std.proofs.lemmas.List.{at_drop_all, at_drop_more}
use Rattle.droid_signature_file.specs.Meaning.{outermost}
use Rattle.droid_signature_pattern.proofs.positions.outermost.Goals as goal

pub loop-fragment-preserved : goal.loop-fragment-preserved
loop-fragment-preserved c =
    let all = c.args.fragments.now in
    let i = c.loop-fragment.fragment-index in
    let x = c.fragment-item.result in
    let step : outermost (drop i all) ≡ max x.position (outermost (drop (i + 1) all)) = at_drop_more outermost all i x (omega arith) ∙ ap (λ z. max z.position (outermost (drop (i + 1) all))) (sym c.fragment-item.is) in
    omega arith

pub returns : goal.returns
returns c = let none : outermost (drop c.loop-fragment.fragment-index c.args.fragments.now) ≡ 0 = at_drop_all outermost c.args.fragments.now c.loop-fragment.fragment-index (omega arith) in omega arith
