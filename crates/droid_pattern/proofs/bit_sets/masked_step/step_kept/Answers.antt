-- One more word, the first one, and all of them.
use Rattle.std.proofs.Common.{◌-◌, get_or, arith, rules}
use Rattle.droid_pattern.proofs.MoveLemmas.{IsMovedWord, set_more}
use Rattle.droid_pattern.proofs.MaskedStepLemmas.{kept, kept_first, kept_later, kept_all}
use Rattle.droid_pattern.proofs.bit_sets.masked_step.step_kept.Goals as goal

pub loop-place-preserved : goal.loop-place-preserved
loop-place-preserved c =
    let old = c.args.words.now in
    let others = c.args.others.now in
    let now = c.loop-place.words in
    let j = c.loop-place.place - 1 in
    let word = kept_later old others j (get_or now j 0) (get_or now (j - 1) 0) (c.loop-place.invariant.2 j (omega arith)) (c.loop-place.invariant.2 (j - 1) (omega arith)) (omega arith) (omega arith) (omega arith) (search rules) in
    let next = set_more (IsMovedWord (kept old others) 1) old now j _ (omega arith) c.loop-place.invariant.0 (λ k h. c.loop-place.invariant.1 k (omega arith)) (λ k h. c.loop-place.invariant.2 k (omega arith)) word in
    (next.0, next.1, next.2, omega arith)

pub returns-clause-moves : goal.returns-clause-moves
returns-clause-moves c =
    let old = c.args.words.now in
    let others = c.args.others.now in
    let now = c.loop-place.words in
    let word = kept_first old others (get_or now 0 0) (c.loop-place.invariant.2 0 c.loop-place.invariant.3) c.requires.some c.requires.enough in
    let all = set_more (IsMovedWord (kept old others) 1) old now 0 _ (omega arith) c.loop-place.invariant.0 (λ k h. c.loop-place.invariant.1 k (omega arith)) (λ k h. c.loop-place.invariant.2 k (omega arith)) word in
    kept_all old others _ all.0 c.requires.enough (λ j h. all.1 j (omega arith) h)
