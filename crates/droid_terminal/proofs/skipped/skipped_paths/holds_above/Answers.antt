use Rattle.std.proofs.Common.{◌≡◌, ◌∙◌, ℕ, false, length, sym, subst, arith}
use Rattle.droid_terminal.specs.SkippedPaths.{holds_front, is_held, some_below}
use Rattle.droid_terminal.proofs.SkippedPaths.{held_before, held_nowhere, held_whole}
use Rattle.droid_terminal.proofs.skipped.skipped_paths.holds_above.Goals as goal

pub returns-then-is_held : goal.returns-then-is_held
returns-then-is_held c = sym (held_whole (is_held c.args.paths.now) c.args.path.now (sym c.is_held.ensures ∙ c.if-is_held.true))

pub returns-then-holds_front : goal.returns-then-holds_front
returns-then-holds_front c = sym (held_before (is_held c.args.paths.now) c.args.path.now c.loop-place.place (omega arith) (sym c.holds_front.ensures ∙ c.if-holds_front.true))

pub returns : goal.returns
returns c =
    let all : c.loop-place.place ≡ length c.args.path.now = omega arith in
    sym (held_nowhere (is_held c.args.paths.now) c.args.path.now c.loop-place.invariant.whole
    (subst (λ (n : ℕ). some_below (holds_front (is_held c.args.paths.now) c.args.path.now) n ≡ false) all c.loop-place.invariant.none))
