use Rattle.std.proofs.Common.{◌≡◌, ◌∙◌, ℕ, Err, take, drop, ap}
use Rattle.droid_journal.specs.declared.journal_fault.Fault.TheVariants as faults
use Rattle.droid_journal.proofs.Handing.{ends_there, fails_in, handed, stand_in}
use Rattle.droid_journal.proofs.file_records.hand_some.Goals as goal

pub returns-in-Err-clause-refuted : goal.returns-in-Err-clause-refuted
returns-in-Err-clause-refuted g c = λ number reported s here.
    let same : c.in-Err.fault ≡ faults.Record number = cc in
    fails_in g.M.Machine.stands g.M.Machine.gives c.args.key (drop c.args.from.at s) _ c.args.from number c.args.machine.now
    (c.in-Ok.ensures.read s here ∙ ap (λ (n : ℕ). take n (drop c.args.from.at s)) c.requires.window) (c.in-Err.ensures.refuted number (ap Err same))

pub returns-in-Ok-replay-clause-hands : goal.returns-in-Ok-replay-clause-hands
returns-in-Ok-replay-clause-hands g c =
    let to = c.in-Ok-replay.to in
    let r = c.in-Ok-replay.ensures.replays in (
      r.its,
      handed g.M.Machine.stands g.M.Machine.gives c.args.key _ c.args.machine.now c.replay.new.machine c.args.from to r,
      λ s here. stand_in g.M.Machine.stands g.M.Machine.gives c.args.key s _ c.args.machine.now c.replay.new.machine c.args.from to r (c.in-Ok.ensures.read s here ∙ ap (λ (n : ℕ). take n (drop c.args.from.at s)) c.requires.window),
    )

pub returns-in-Ok-replay-clause-ends : goal.returns-in-Ok-replay-clause-ends
returns-in-Ok-replay-clause-ends g c = λ same s here.
    let to = c.in-Ok-replay.to in
    let r = c.in-Ok-replay.ensures.replays in
    ends_there g.M.Machine.stands g.M.Machine.gives c.args.key s _ c.args.machine.now c.replay.new.machine c.args.from to r (c.in-Ok.ensures.read s here ∙ ap (λ (n : ℕ). take n (drop c.args.from.at s)) c.requires.window) same
