use Rattle.droid_lists.proofs.TextSteps.{HasRead}
use Rattle.droid_lists.proofs.spelling.profile_text.read_entries.Given as goal

abbrev pub invariant-loop : goal.invariant-loop
invariant-loop l = HasRead l.hash l.text l.reading l.rest l.counter
