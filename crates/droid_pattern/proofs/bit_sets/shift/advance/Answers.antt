-- One more word, and all of them.
use Rattle.std.proofs.Common.{◌≡◌, ◌+◌, ◌*◌, ◌-◌, ◌/◌, ◌%◌, arith}
use Rattle.droid_pattern.proofs.MoveLemmas.{IsMovedWord, moved_as, moves_all, set_more}
use Rattle.droid_pattern.proofs.bit_sets.shift.advance.Goals as goal

pub loop-place-preserved : goal.loop-place-preserved
loop-place-preserved c =
    let old = c.args.words.now in
    let n = 64 * (c.args.count / 64) + c.args.count % 64 in
    let j = c.loop-place.place - 1 in
    let word = moved_as old c.loop-place.words n j c.joined.result (λ k h. c.loop-place.invariant.2 k (omega arith)) c.joined.ensures in
    let next = set_more (IsMovedWord old n) old c.loop-place.words j c.joined.result (omega arith) c.loop-place.invariant.0 (λ k h. c.loop-place.invariant.1 k (omega arith)) (λ k h. c.loop-place.invariant.2 k (omega arith)) word in
    (next.0, next.1, next.2, omega arith)

pub loop-place-2-preserved : goal.loop-place-2-preserved
loop-place-2-preserved c =
    let old = c.args.words.now in
    let n = 64 * (c.args.count / 64) + c.args.count % 64 in
    let j = c.loop-place-2.place - 1 in
    let word = moved_as old c.loop-place-2.words n j c.moved.result (λ k h. c.loop-place-2.invariant.2 k (omega arith)) c.moved.ensures in
    set_more (IsMovedWord old n) old c.loop-place-2.words j c.moved.result (omega arith) c.loop-place-2.invariant.0 (λ k h. c.loop-place-2.invariant.1 k (omega arith)) (λ k h. c.loop-place-2.invariant.2 k (omega arith)) word

pub loop-place-2-init : goal.loop-place-2-init
loop-place-2-init c = (
  c.loop-place.invariant.0,
  λ j h below. c.loop-place.invariant.1 j (omega (arith, c.loop-place-test.false, c.loop-place.invariant.3)) below,
  λ j h. c.loop-place.invariant.2 j (omega (arith, c.loop-place-test.false, c.loop-place.invariant.3)),
)

pub returns-clause-moves : goal.returns-clause-moves
returns-clause-moves c =
    let whole : 64 * (c.args.count / 64) + c.args.count % 64 ≡ c.args.count = omega arith in
    moves_all c.args.words.now c.loop-place-2.words c.args.count c.loop-place-2.invariant.0 (λ j h. rw whole at (c.loop-place-2.invariant.1 j (omega arith) h))
