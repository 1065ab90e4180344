-- The criteria so far are those of the words that were yielded.
use Rattle.std.proofs.Common.{◌≡◌, map, Some}
use Rattle.droid_lines.specs.Exports.{every, criterion_word}
use Rattle.droid_lines.proofs.exports.parse_criteria.Given as goal

abbrev pub invariant-loop-word : goal.invariant-loop-word
invariant-loop-word l = every criterion_word (map (λ word. word.now) l.yielded) ≡ Some l.criteria
