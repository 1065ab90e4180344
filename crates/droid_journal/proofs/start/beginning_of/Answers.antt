use Rattle.std.proofs.Common.{◌∙◌, ℕ, take, ap}
use Rattle.droid_journal.proofs.start.beginning_of.Goals as goal

pub returns-clause-begins : goal.returns-clause-begins
returns-clause-begins g c = λ s here. c.beginning_in.ensures.begins s (c.in-Ok.ensures.read s here ∙ ap (λ (n : ℕ). take n s) c.requires.window)

pub returns-clause-other : goal.returns-clause-other
returns-clause-other g c = λ reported s here. c.beginning_in.ensures.other reported s (c.in-Ok.ensures.read s here ∙ ap (λ (n : ℕ). take n s) c.requires.window)
