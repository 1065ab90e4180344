use Rattle.std.proofs.KnownBytes.{Keeps-trans}
use Rattle.droid_frame.proofs.Scopes.{counts_same}
use Rattle.droid_frame.proofs.io.buffer.read_some.Goals as goal

pub returns-in-Ok-clause-counts : goal.returns-in-Ok-clause-counts
returns-in-Ok-clause-counts g c = λ start counts.
    let now = c.loop-count.invariant.counts start counts in
    counts_same start _ _ c.loop-count.retries (c.in-Ok.ensures.adds now.sound) now

pub returns-then-not-allow-clause-counts : goal.returns-then-not-allow-clause-counts
returns-then-not-allow-clause-counts g c = λ start counts.
    let now = c.loop-count.invariant.counts start counts in
    c.if-not-allow.ensures.counts start _ _ (c.in-Err.ensures.adds now.sound) now

pub loop-count-preserved : goal.loop-count-preserved
loop-count-preserved g c = record {
  kept = Keeps-trans _ _ _ c.loop-count.invariant.kept c.in-Err.ensures.bytes;
  counts = λ start counts.
      let now = c.loop-count.invariant.counts start counts in
      c.if-not-allow.ensures.counts start _ _ (c.in-Err.ensures.adds now.sound) now;
}
