use Rattle.std.proofs.Common.{ℕ, List, length, ap, ◌∙◌, arith}
use Rattle.droid_journal.specs.Chains.{checked}
use Rattle.droid_cmd_serve.specs.Journals.{completed}
use Rattle.droid_cmd_serve.proofs.Headers.{checked_size}
use Rattle.droid_cmd_serve.proofs.header.header_present.Goals as goal

pub returns-clause-text : goal.returns-clause-text
returns-clause-text g c = λ s here. c.in_ok-header.ensures ∙ ap checked (c.in-Ok.ensures.text s here ∙ ap (λ (t : List ℕ). completed t s c.args.random.now) (c.deref.ensures.value ∙ c.in_ok-text.ensures.text))

pub returns-clause-size : goal.returns-clause-size
returns-clause-size g c = omega (arith, checked_size c.in-Ok.front.items c.in_ok-header.header.items c.in_ok-header.ensures, c.in-Ok.ensures.size, ap length c.deref.ensures.value, c.in_ok-text.ensures.size)
