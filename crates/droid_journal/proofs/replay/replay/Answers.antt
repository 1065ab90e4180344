use Rattle.std.proofs.Common.{◌≡◌, Err, ap, arith}
use Rattle.droid_journal.specs.declared.journal_fault.Fault.TheVariants as faults
use Rattle.droid_journal.specs.Records.{made}
use Rattle.droid_journal.proofs.Going.{begun, fails, goes_on, shorter, went, within}
use Rattle.droid_journal.proofs.replay.replay.Goals as goal

pub loop-found-init : goal.loop-found-init
loop-found-init g c = begun g.M.Machine.stands g.M.Machine.gives c.args.key c.args.from c.args.bytes.now c.args.machine.now

pub next_of-requires-clause-at : goal.next_of-requires-clause-at
next_of-requires-clause-at g c =
    let all = within g.M.Machine.stands g.M.Machine.gives c.args.key c.args.from c.args.bytes.now c.args.machine.now c.loop-found.rest.now c.loop-found.place c.loop-found.machine c.loop-found.invariant in
    omega (arith, all.0, c.requires.at)

pub next_of-requires-clause-records : goal.next_of-requires-clause-records
next_of-requires-clause-records g c =
    let all = within g.M.Machine.stands g.M.Machine.gives c.args.key c.args.from c.args.bytes.now c.args.machine.now c.loop-found.rest.now c.loop-found.place c.loop-found.machine c.loop-found.invariant in
    omega (arith, all.1, c.requires.count)

pub loop-found-smaller : goal.loop-found-smaller
loop-found-smaller g c = shorter c.args.key c.loop-found.place c.loop-found.rest.now _ _ _ c.in-Some.ensures.found

pub loop-found-preserved : goal.loop-found-preserved
loop-found-preserved g c =
    let found = c.in-Some.found in
    goes_on g.M.Machine.stands g.M.Machine.gives c.args.key c.args.from c.args.bytes.now c.args.machine.now c.loop-found.rest.now found.rest.now c.loop-found.place found.after c.loop-found.machine c.replay_one.new.machine
    (made found.first found.request.now found.reply.now) c.loop-found.invariant c.in-Some.ensures.found
    (λ setting before st. c.in-Ok.ensures.stands setting before found.first st) (λ setting before st. c.in-Ok.ensures.gave setting before found.first st)

pub returns-in-Err-clause-refuted : goal.returns-in-Err-clause-refuted
returns-in-Err-clause-refuted g c = λ number reported.
    let found = c.in-Some.found in
    let same : c.in-Err.fault ≡ faults.Record number = cc in
    fails g.M.Machine.stands g.M.Machine.gives c.args.key c.args.from c.args.bytes.now c.args.machine.now c.loop-found.rest.now found.rest.now c.loop-found.place found.after number c.loop-found.machine
    (made found.first found.request.now found.reply.now) c.loop-found.invariant c.in-Some.ensures.found (c.in-Err.ensures.number number (ap Err same)) (c.in-Err.ensures.refuted number (ap Err same))

pub returns-clause-replays : goal.returns-clause-replays
returns-clause-replays g c = went g.M.Machine.stands g.M.Machine.gives c.args.key c.args.from c.args.bytes.now c.args.machine.now c.loop-found.rest.now c.loop-found.place c.loop-found.machine c.loop-found.invariant c.in_default.ensures.none
