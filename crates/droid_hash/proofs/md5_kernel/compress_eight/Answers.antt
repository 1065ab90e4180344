use Rattle.std.proofs.Common.{refl, ◌∙◌, ap, ℕ, List}
use Rattle.md5.specs.Md5.{add_state, compress, rounds}
use Rattle.droid_hash.specs.Lanes.{lane}
use Rattle.droid_hash.proofs.md5_kernel.compress_eight.Goals as goal

pub returns : goal.returns
unfolding compress rounds
returns c = λ j low.
    let h = lane j c.args.state.now in
    let s1 = c.four_steps-v.ensures j low h refl in
    let s2 = c.four_steps-v-2.ensures j low h s1 in
    let s3 = c.four_steps-v-3.ensures j low h s2 in
    let s4 = c.four_steps-v-4.ensures j low h s3 in
    let s5 = c.four_steps-v-5.ensures j low h s4 in
    let s6 = c.four_steps-v-6.ensures j low h s5 in
    let s7 = c.four_steps-v-7.ensures j low h s6 in
    let s8 = c.four_steps-v-8.ensures j low h s7 in
    let s9 = c.four_steps-v-9.ensures j low h s8 in
    let s10 = c.four_steps-v-10.ensures j low h s9 in
    let s11 = c.four_steps-v-11.ensures j low h s10 in
    let s12 = c.four_steps-v-12.ensures j low h s11 in
    let s13 = c.four_steps-v-13.ensures j low h s12 in
    let s14 = c.four_steps-v-14.ensures j low h s13 in
    let s15 = c.four_steps-v-15.ensures j low h s14 in
    let s16 = c.four_steps-v-16.ensures j low h s15 in
    rw (c.sum.ensures j low, c.sum-2.ensures j low, c.sum-3.ensures j low, c.sum-4.ensures j low)
    (ap (add_state h) (s16 ∙ ap (λ (w : List ℕ). rounds h w 64) (c.words_of-w.ensures j low)))
