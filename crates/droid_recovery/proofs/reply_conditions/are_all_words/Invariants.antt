-- All are words where those are from this place on.
use Rattle.std.proofs.Common.{◌≡◌, drop}
use Rattle.std.specs.List.{list_all}
use Rattle.droid_recovery.specs.WordTests.{is_word}
use Rattle.droid_recovery.proofs.reply_conditions.are_all_words.Given as goal

abbrev pub invariant-loop-place : goal.invariant-loop-place
invariant-loop-place l = list_all is_word l.texts ≡ list_all is_word (drop l.place l.texts)
