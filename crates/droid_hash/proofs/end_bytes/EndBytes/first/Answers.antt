use Rattle.std.proofs.Common.{◌-◌, min, length, ap, ◌∙◌, arith}
use Rattle.std.proofs.lemmas.List.{length-take, length-drop}
use Rattle.droid_hash.specs.Ends.{Came}
use Rattle.droid_hash.proofs.Growing.{all_first}
use Rattle.droid_hash.proofs.end_bytes.EndBytes.first.Goals as goal

pub returns-clause-value : goal.returns-clause-value
returns-clause-value c = rw (← c.self.view_is) c.as_slice.ensures.value

pub returns-clause-all : goal.returns-clause-all
unfolding Came
returns-clause-all c = rw (← c.self.view_is) (λ bytes ends whole.
    let kept = c.self.inside in
    c.as_slice.ensures.value ∙ all_first kept.limit kept.size kept.count kept.first.items kept.last.items bytes ends whole)

pub returns-clause-len : goal.returns-clause-len
unfolding Came
returns-clause-len c = rw (← c.self.view_is) (λ bytes ends whole.
    let kept = c.self.inside in
    omega (arith, whole, length-take (min kept.limit kept.size) bytes, ap length (c.as_slice.ensures.value ∙ all_first kept.limit kept.size kept.count kept.first.items kept.last.items bytes ends whole)))
