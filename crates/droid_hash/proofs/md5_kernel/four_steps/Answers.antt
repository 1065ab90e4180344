use Rattle.std.proofs.Common.{ap, ◌∙◌, arith}
use Rattle.md5.specs.Md5.{rounds}
use Rattle.droid_hash.specs.Lanes.{words}
use Rattle.droid_hash.proofs.md5_kernel.four_steps.Goals as goal

pub returns : goal.returns
returns c = λ j low h held.
    let after = rounds h (words j c.args.w.now) in
    let s1 = c.step-v.ensures j low h held in
    let s2 = c.step-v-2.ensures j low h s1 in
    let s3 = c.step-v-3.ensures j low h (s2 ∙ ap after (omega arith)) in
    c.step.ensures j low h (s3 ∙ ap after (omega arith)) ∙ ap after (omega arith)
