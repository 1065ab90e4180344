use Rattle.std.proofs.Common.{ℕ, List, length, ap, ◌∙◌, arith}
use Rattle.droid_cmd_serve.specs.Journals.{completed}
use Rattle.droid_cmd_serve.proofs.header.header_before.Goals as goal

pub returns-in-Ok-clause-text : goal.returns-in-Ok-clause-text
returns-in-Ok-clause-text g c = λ s here. c.in-Ok.ensures.text s here ∙ ap (λ (t : List ℕ). completed t s c.args.random.now) (c.deref.ensures.value ∙ c.in_ok-text.ensures.text)

pub returns-in-Ok-clause-size : goal.returns-in-Ok-clause-size
returns-in-Ok-clause-size g c = omega (arith, c.in-Ok.ensures.size, ap length c.deref.ensures.value, c.in_ok-text.ensures.size)
