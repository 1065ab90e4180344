use Rattle.std.proofs.Common.{◌+◌, ◌≤◌, length, arith}
use Rattle.droid_identity.proofs.SpanLemmas.{first_beyond, least_above, none_beyond}
use Rattle.droid_identity.proofs.search.first_offset.Goals as goal

pub returns-in-Some-clause-first : goal.returns-in-Some-clause-first
returns-in-Some-clause-first c =
    let fits : c.loop-from.from ≤ length c.args.bytes.now = omega (arith, c.loop-from-test.true, c.min-last.ensures) in
    first_beyond c.args.sequence.now.offsets.anchor c.args.sequence.now.pattern c.args.bytes.now c.loop-from.from fits c.args.low c.args.high c.in-Some.offset c.min-most.result c.loop-from.invariant.0
    (omega (arith, c.loop-from-test.true, c.min-last.ensures, c.min-most.ensures)) c.loop-from.invariant.1 (rw (c.in-Some.is, c.beyond-rest.ensures.bytes) at c.in_ok-found.ensures)

pub loop-from-preserved : goal.loop-from-preserved
loop-from-preserved c =
    let fits : c.loop-from.from ≤ length c.args.bytes.now = omega (arith, c.loop-from-test.true, c.min-last.ensures) in
    let none = none_beyond c.args.sequence.now.offsets.anchor c.args.sequence.now.pattern c.args.bytes.now c.loop-from.from fits c.min-most.result (rw (c.in-None.is, c.beyond-rest.ensures.bytes) at c.in_ok-found.ensures) in (
      omega (arith, c.loop-from.invariant.0),
      λ other count begun is.
          let far = least_above c.args.sequence.now.offsets.anchor c.args.sequence.now.pattern c.args.bytes.now c.args.low c.loop-from.from (c.loop-from.from + c.min-most.result) c.loop-from.invariant.1 none other count begun is in
          omega (arith, far),
    )
