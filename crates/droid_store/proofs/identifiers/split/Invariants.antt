-- The words so far are those that were yielded.
use Rattle.std.proofs.Common.{◌≡◌, map}
use Rattle.droid_store.proofs.identifiers.split.Given as goal

abbrev pub invariant-loop-word : goal.invariant-loop-word
invariant-loop-word l = l.words ≡ map (λ word. word.now) l.yielded
