use Rattle.std.proofs.Common.{◌≡◌, ◌∙◌, ℕ, take, drop, ap}
use Rattle.droid_compaction.proofs.Passing.{ends_there, passed, stand_in}
use Rattle.droid_compaction.proofs.walk.take_some.Goals as goal

pub returns-in-Ok-take_records-clause-passes : goal.returns-in-Ok-take_records-clause-passes
returns-in-Ok-take_records-clause-passes g c =
    let to = c.in-Ok-take_records.to in
    let r = c.in-Ok-take_records.ensures.takes in (
      r.its,
      passed g.T.Taker.took c.args.key _ c.args.taker.now c.take_records.new.taker c.args.from to r,
      λ s here. stand_in g.T.Taker.took c.args.key s _ c.args.taker.now c.take_records.new.taker c.args.from to r (c.in-Ok.ensures.read s here ∙ ap (λ (n : ℕ). take n (drop c.args.from.at s)) c.requires.window),
    )

pub returns-in-Ok-take_records-clause-ends : goal.returns-in-Ok-take_records-clause-ends
returns-in-Ok-take_records-clause-ends g c = λ same s here.
    let to = c.in-Ok-take_records.to in
    let r = c.in-Ok-take_records.ensures.takes in
    ends_there g.T.Taker.took c.args.key s _ c.args.taker.now c.take_records.new.taker c.args.from to r (c.in-Ok.ensures.read s here ∙ ap (λ (n : ℕ). take n (drop c.args.from.at s)) c.requires.window) same
