use Rattle.std.proofs.Common.{rules, ◌≡◌, ◌<◌, inl, refl, length, arith}
use Rattle.std.specs.IoError.{error_kind}
use Rattle.std.specs.declared.io.ErrorKind.TheVariants.{Interrupted}
use Rattle.droid_frame.proofs.Scopes.{counts_same}
use Rattle.droid_frame.proofs.Stopping.{stops_at_none}
use Rattle.droid_turns.proofs.Tries.{counts_tried, failed_by, tried_again, tried_too_often}
use Rattle.droid_turns.proofs.pipe.write_to.Goals as goal

pub returns-in-Ok-eq0-clause-reported : goal.returns-in-Ok-eq0-clause-reported
returns-in-Ok-eq0-clause-reported g c = λ start counts.
    let now = counts_tried start _ c.loop-tried.tried (omega arith) (c.loop-tried.invariant.counts start counts) in
    let some : 0 < length c.args.bytes.now = search rules in
    stops_at_none start _ _ _ _ _ c.loop-tried.tried c.in-Ok-eq0.field-0 c.in-Ok-eq0.field-0-test (c.in-Ok-eq0.ensures.adds now.sound) some c.in-Ok-eq0.ensures.room now

pub returns-in-Ok-clause-reported : goal.returns-in-Ok-clause-reported
returns-in-Ok-clause-reported g c = λ start counts.
    let now = counts_tried start _ c.loop-tried.tried (omega arith) (c.loop-tried.invariant.counts start counts) in
    let some : 0 < c.in-Ok.count = omega arith in
    (c.loop-tried.tried, counts_same start _ _ c.loop-tried.tried ((c.in-Ok.ensures.adds now.sound).taken some) now)

pub returns-then-ne-clause-reported : goal.returns-then-ne-clause-reported
returns-then-ne-clause-reported g c = λ start counts.
    let tried = c.loop-tried.invariant.counts start counts in
    let other : error_kind c.in-Err.error ≡ Interrupted → ⊥ = search rules in
    inl (failed_by start _ _ c.loop-tried.tried c.in-Err.error (omega arith) (c.in-Err.ensures.adds tried.sound) other tried)

pub loop-tried-preserved : goal.loop-tried-preserved
loop-tried-preserved g c =
    let interrupted : error_kind c.in-Err.error ≡ Interrupted = search rules in
    record {
      none = search rules;
      counts = λ start counts.
          let tried = c.loop-tried.invariant.counts start counts in
          tried_again start _ _ c.loop-tried.tried _ c.in-Err.error refl (c.in-Err.ensures.adds tried.sound) interrupted tried;
    }

pub returns-clause-reported : goal.returns-clause-reported
returns-clause-reported g c = λ start counts. inl (tried_too_often start _ c.loop-tried.tried (omega arith) (c.loop-tried.invariant.counts start counts))
