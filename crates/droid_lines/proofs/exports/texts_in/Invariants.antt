-- The texts so far are those that were yielded.
use Rattle.std.proofs.Common.{◌≡◌, map}
use Rattle.droid_lines.proofs.exports.texts_in.Given as goal

abbrev pub invariant-loop-text : goal.invariant-loop-text
invariant-loop-text l = l.texts ≡ map (λ text. text.now) l.yielded
