use Rattle.std.proofs.Common.{◌∙◌, ℕ, List, length, take, drop, ap, arith}
use Rattle.std.proofs.lemmas.List.{length-take}
use Rattle.droid_compaction.proofs.skim.front_at.Goals as goal

pub returns-in-Ok-clause-there : goal.returns-in-Ok-clause-there
returns-in-Ok-clause-there g c = λ s key place it rest form here fit is. c.front_in.ensures.there key place it rest form fit (c.in-Ok.ensures.read s here ∙ ap (λ (t : List ℕ). take 80 t) is)

pub returns-in-Ok-clause-none : goal.returns-in-Ok-clause-none
returns-in-Ok-clause-none g c = λ s here few. c.front_in.ensures.none (omega (arith, ap length (c.in-Ok.ensures.read s here), length-take 80 (drop c.args.at s), few))
