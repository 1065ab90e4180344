-- so far each is a word
use Rattle.std.specs.List.{AllByRecursion}
use Rattle.droid_store.specs.Changes.{IsWord}
use Rattle.droid_base_tests.proofs.store.words.words.Given as goal

abbrev pub invariant-loop-item : goal.invariant-loop-item
invariant-loop-item l = AllByRecursion IsWord l.words
