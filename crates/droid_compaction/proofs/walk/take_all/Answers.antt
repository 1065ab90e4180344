use Rattle.std.proofs.Common.{◌++◌, [], refl, arith}
use Rattle.droid_journal.proofs.Chains.{chain_long}
use Rattle.droid_compaction.proofs.Passing.{at_is, passes_none, passes_on, records_is, stand_on}
use Rattle.droid_compaction.proofs.walk.take_all.Goals as goal

pub loop-init : goal.loop-init
loop-init g c = record { window = c.requires.window; so_far = ([], passes_none g.T.Taker.took c.args.key c.args.taker.now c.args.from, λ s here. refl) }

pub take_some-requires-clause-count : goal.take_some-requires-clause-count
take_some-requires-clause-count g c =
    let p = c.loop.invariant.so_far in
    omega (
      arith,
      at_is g.T.Taker.took c.args.key c.args.taker.now c.loop.taker c.args.from c.loop.place p.0 p.1,
      records_is g.T.Taker.took c.args.key c.args.taker.now c.loop.taker c.args.from c.loop.place p.0 p.1,
      chain_long c.args.key c.args.from p.0,
      c.requires.count,
    )

pub returns-then-next-place-clause-passes : goal.returns-then-next-place-clause-passes
returns-then-next-place-clause-passes g c =
    let p = c.loop.invariant.so_far in
    let q = c.in-Ok.ensures.passes in (
      p.0 ++ q.0,
      passes_on g.T.Taker.took c.args.key c.args.taker.now c.loop.taker c.take_some.new.taker c.args.from c.loop.place c.in-Ok.next p.0 q.0 p.1 q.1,
      λ s here. record {
        joined = stand_on g.T.Taker.took c.args.key s c.args.taker.now c.loop.taker c.args.from c.loop.place c.in-Ok.next p.0 q.0 p.1 (p.2 s here) (q.2 s here);
        ends = c.in-Ok.ensures.ends c.if-next-place.true s here;
      },
    )

pub loop-preserved : goal.loop-preserved
loop-preserved g c =
    let p = c.loop.invariant.so_far in
    let q = c.in-Ok.ensures.passes in
    record {
      window = c.take_some.ensures.window;
      so_far = (
        p.0 ++ q.0,
        passes_on g.T.Taker.took c.args.key c.args.taker.now c.loop.taker c.take_some.new.taker c.args.from c.loop.place c.in-Ok.next p.0 q.0 p.1 q.1,
        λ s here. stand_on g.T.Taker.took c.args.key s c.args.taker.now c.loop.taker c.args.from c.loop.place c.in-Ok.next p.0 q.0 p.1 (p.2 s here) (q.2 s here),
      );
    }
