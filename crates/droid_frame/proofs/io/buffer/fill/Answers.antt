use Rattle.std.proofs.Common.{◌-◌, length, rules, subst}
use Rattle.std.specs.Io.KnownBytes.{Consumes}
use Rattle.std.proofs.KnownBytes.{Consumes-trans}
use Rattle.droid_frame.proofs.Parts.{filled_on}
use Rattle.droid_frame.proofs.Scopes.{given_up}
use Rattle.droid_frame.proofs.io.buffer.fill.Goals as goal

pub returns-in_err-count-clause-counts : goal.returns-in_err-count-clause-counts
returns-in_err-count-clause-counts g c = λ start counts.
    given_up start _ _ c.from_residual.result _ c.from_residual.ensures.1 (c.in_err-count.ensures.counts start (c.loop-filled.invariant.counts start counts))

pub returns-in-0-clause-counts : goal.returns-in-0-clause-counts
returns-in-0-clause-counts g c = λ start counts. c.in_ok-count.ensures.counts start (c.loop-filled.invariant.counts start counts)

pub loop-filled-preserved : goal.loop-filled-preserved
loop-filled-preserved g c =
    let at = c.loop-filled.filled in
    let buffer = c.loop-filled.buffer in
    record {
      within = search rules;
      came = subst (Consumes _ _) (filled_on at (length buffer - at) c.in_ok-count.count buffer c.read_some.new.buffer c.loop-filled.invariant.within c.in_ok-count.ensures.bound.0)
          (Consumes-trans _ _ _ _ _ c.loop-filled.invariant.came c.in_ok-count.ensures.bytes.0);
      counts = λ start counts. c.in_ok-count.ensures.counts start (c.loop-filled.invariant.counts start counts);
    }
