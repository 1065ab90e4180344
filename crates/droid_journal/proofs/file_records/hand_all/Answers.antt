use Rattle.std.proofs.Common.{◌≡◌, ◌++◌, [], Err, refl, ap, arith}
use Rattle.droid_journal.specs.declared.journal_fault.Fault.TheVariants as faults
use Rattle.droid_journal.proofs.Chains.{chain_long}
use Rattle.droid_journal.proofs.Handing.{at_is, fails_on, hands_none, hands_on, records_is, stand_on}
use Rattle.droid_journal.proofs.file_records.hand_all.Goals as goal

pub loop-init : goal.loop-init
loop-init g c = record {
  window = c.requires.window;
  so_far = ([], hands_none g.M.Machine.stands g.M.Machine.gives c.args.key c.args.machine.now c.args.from, λ s here. refl);
}

pub hand_some-requires-clause-count : goal.hand_some-requires-clause-count
hand_some-requires-clause-count g c =
    let p = c.loop.invariant.so_far in
    omega (
      arith,
      at_is g.M.Machine.stands g.M.Machine.gives c.args.key c.args.machine.now c.loop.machine c.args.from c.loop.place p.0 p.1,
      records_is g.M.Machine.stands g.M.Machine.gives c.args.key c.args.machine.now c.loop.machine c.args.from c.loop.place p.0 p.1,
      chain_long c.args.key c.args.from p.0,
      c.requires.count,
    )

pub returns-in-Err-clause-refuted : goal.returns-in-Err-clause-refuted
returns-in-Err-clause-refuted g c = λ number reported s here.
    let same : c.in-Err.fault ≡ faults.Record number = cc in
    let p = c.loop.invariant.so_far in
    fails_on g.M.Machine.stands g.M.Machine.gives c.args.key s c.args.machine.now c.loop.machine c.args.from c.loop.place p.0 number p.1 (p.2 s here) (c.in-Err.ensures.refuted number (ap Err same) s here)

pub returns-then-next-place-clause-hands : goal.returns-then-next-place-clause-hands
returns-then-next-place-clause-hands g c =
    let p = c.loop.invariant.so_far in
    let q = c.in-Ok.ensures.hands in (
      p.0 ++ q.0,
      hands_on g.M.Machine.stands g.M.Machine.gives c.args.key c.args.machine.now c.loop.machine c.hand_some.new.machine c.args.from c.loop.place c.in-Ok.next p.0 q.0 p.1 q.1,
      λ s here. record {
        joined = stand_on g.M.Machine.stands g.M.Machine.gives c.args.key s c.args.machine.now c.loop.machine c.args.from c.loop.place c.in-Ok.next p.0 q.0 p.1 (p.2 s here) (q.2 s here);
        ends = c.in-Ok.ensures.ends c.if-next-place.true s here;
      },
    )

pub loop-preserved : goal.loop-preserved
loop-preserved g c =
    let p = c.loop.invariant.so_far in
    let q = c.in-Ok.ensures.hands in
    record {
      window = c.hand_some.ensures.window;
      so_far = (
        p.0 ++ q.0,
        hands_on g.M.Machine.stands g.M.Machine.gives c.args.key c.args.machine.now c.loop.machine c.hand_some.new.machine c.args.from c.loop.place c.in-Ok.next p.0 q.0 p.1 q.1,
        λ s here. stand_on g.M.Machine.stands g.M.Machine.gives c.args.key s c.args.machine.now c.loop.machine c.args.from c.loop.place c.in-Ok.next p.0 q.0 p.1 (p.2 s here) (q.2 s here),
      );
    }
