use Rattle.std.proofs.Common.{arith}
use Rattle.droid_journal.specs.Records.{made, record_bytes}
use Rattle.droid_compaction.proofs.Going.{begun, goes_on, shorter, went, within}
use Rattle.droid_compaction.proofs.SideBySide.{sums_on}
use Rattle.droid_compaction.proofs.walk.take_records.Goals as goal

pub loop-found-init : goal.loop-found-init
loop-found-init g c = record { going = begun g.T.Taker.took c.args.key c.args.from c.args.bytes.now c.args.taker.now; sums = c.of-sums.ensures }

pub next_of-requires-clause-at : goal.next_of-requires-clause-at
next_of-requires-clause-at g c =
    let all = within g.T.Taker.took c.args.key c.args.from c.args.bytes.now c.args.taker.now c.loop-found.rest.now c.loop-found.place c.loop-found.taker c.loop-found.invariant.going in
    omega (arith, all.0, c.requires.at)

pub next_of-requires-clause-records : goal.next_of-requires-clause-records
next_of-requires-clause-records g c =
    let all = within g.T.Taker.took c.args.key c.args.from c.args.bytes.now c.args.taker.now c.loop-found.rest.now c.loop-found.place c.loop-found.taker c.loop-found.invariant.going in
    omega (arith, all.1, c.requires.count)

pub loop-found-smaller : goal.loop-found-smaller
loop-found-smaller g c = shorter c.args.key c.loop-found.place c.loop-found.rest.now _ _ _ c.in-Some.ensures.found

pub loop-found-preserved : goal.loop-found-preserved
loop-found-preserved g c =
    let found = c.in-Some.found in
    record {
      going = goes_on g.T.Taker.took c.args.key c.args.from c.args.bytes.now c.args.taker.now c.loop-found.rest.now found.rest.now c.loop-found.place found.after c.loop-found.taker c.take.new.self
          (made found.first found.request.now found.reply.now) c.loop-found.invariant.going c.in-Some.ensures.found (λ setting before took. c.in-Ok.ensures.took setting before found.first took);
      sums = sums_on c.args.key.form c.loop-found.rest.now found.rest.now c.next_of.new.sums c.next_of.ensures.sums
          (record_bytes c.args.key c.loop-found.place (made found.first found.request.now found.reply.now), c.in-Some.ensures.found.parts);
    }

pub returns-clause-takes : goal.returns-clause-takes
returns-clause-takes g c = went g.T.Taker.took c.args.key c.args.from c.args.bytes.now c.args.taker.now c.loop-found.rest.now c.loop-found.place c.loop-found.taker c.loop-found.invariant.going c.in_default.ensures.none
