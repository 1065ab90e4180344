use Rattle.std.proofs.Common.{inl, arith, ◌<◌}
use Rattle.std.proofs.KnownBytes.{Keeps-trans}
use Rattle.droid_frame.proofs.Scopes.{counts_same}
use Rattle.droid_frame.proofs.Stopping.{stops_at_none, takes_more}
use Rattle.droid_frame.proofs.io.output.write_some.Goals as goal

pub returns-in-Ok-eq0-clause-counts : goal.returns-in-Ok-eq0-clause-counts
returns-in-Ok-eq0-clause-counts g c = λ start counts.
    let now = c.loop-count.invariant.counts start counts in
    stops_at_none start _ _ _ _ _ c.loop-count.retries c.in-Ok-eq0.field-0 c.in-Ok-eq0.field-0-test (c.in-Ok-eq0.ensures.adds now.sound) c.requires c.in-Ok-eq0.ensures.room now

pub returns-in-Ok-clause-counts : goal.returns-in-Ok-clause-counts
returns-in-Ok-clause-counts g c = λ start counts.
    let now = c.loop-count.invariant.counts start counts in
    let some : 0 < c.in-Ok.count = omega arith in
    counts_same start _ _ c.loop-count.retries ((c.in-Ok.ensures.adds now.sound).taken some) now

pub returns-then-not-allow-clause-counts : goal.returns-then-not-allow-clause-counts
returns-then-not-allow-clause-counts g c = λ start counts.
    let now = c.loop-count.invariant.counts start counts in
    inl (c.if-not-allow.ensures.counts start _ _ (c.in-Err.ensures.adds now.sound) now)

pub loop-count-preserved : goal.loop-count-preserved
loop-count-preserved g c = record {
  kept = Keeps-trans _ _ _ c.loop-count.invariant.kept c.in-Err.ensures.bytes;
  room = takes_more _ _ _ 0 0 c.loop-count.invariant.room c.in-Err.ensures.room;
  counts = λ start counts.
      let now = c.loop-count.invariant.counts start counts in
      c.if-not-allow.ensures.counts start _ _ (c.in-Err.ensures.adds now.sound) now;
}
