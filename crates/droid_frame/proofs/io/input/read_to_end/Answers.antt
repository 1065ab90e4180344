use Rattle.std.proofs.Common.{◌≡◌, ◌++◌, length, take, subst, sym, ap, ◌∙◌, arith}
use Rattle.std.proofs.lemmas.List.{length-append, length-take, take-append-le}
use Rattle.std.proofs.KnownBytes.{Consumes-trans}
use Rattle.std.specs.Io.KnownBytes.{Consumes}
use Rattle.droid_frame.specs.declared.io.stream_fault.InputFault.TheVariants.{Memory}
use Rattle.droid_frame.proofs.Inputs.{passed_fault}
use Rattle.droid_frame.proofs.Scopes.{counts_none, is_error, reported_fault, reported_none}
use Rattle.droid_frame.proofs.io.input.read_to_end.Goals as goal

pub returns-in_err-count-clause-fault : goal.returns-in_err-count-clause-fault
returns-in_err-count-clause-fault g c = λ sound.
    let start = (g.R.SteadyRead.seen c.args.reader.now).interruptions in
    let now = c.loop-input.invariant.counts start (counts_none _ sound) in
    reported_fault start _ _ (is_error c.from_residual.result _ c.from_residual.ensures.1) (c.in_err-count.ensures.counts start now)

pub returns-then-count-eq0-clause-fault : goal.returns-then-count-eq0-clause-fault
returns-then-count-eq0-clause-fault g c = λ sound.
    let start = (g.R.SteadyRead.seen c.args.reader.now).interruptions in
    let now = c.loop-input.invariant.counts start (counts_none _ sound) in
    reported_none start _ c.read_some.new.retries _ (λ e. absurd cc) (c.in_ok-count.ensures.counts start now)

pub returns-then-count-room-clause-err : goal.returns-then-count-room-clause-err
returns-then-count-room-clause-err g c =
    let read = take c.in_ok-count.count c.read_some.new.buffer in
    record {
      bytes = c.loop-input.input.items ++ read;
      consumed = Consumes-trans _ _ _ _ _ c.loop-input.invariant.came c.in_ok-count.ensures.bytes.0;
      counted = omega (arith, length-append c.loop-input.input.items read, length-take c.in_ok-count.count c.read_some.new.buffer, c.in_ok-count.ensures.bound.0, c.read_some.auto.buffer, length-take c.min-wanted.result c.loop-input.chunk);
    }

pub returns-then-count-room-clause-fault : goal.returns-then-count-room-clause-fault
returns-then-count-room-clause-fault g c = λ sound.
    let start = (g.R.SteadyRead.seen c.args.reader.now).interruptions in
    let now = c.loop-input.invariant.counts start (counts_none _ sound) in
    reported_none start _ c.read_some.new.retries _ (λ e. absurd cc) (c.in_ok-count.ensures.counts start now)

pub loop-input-preserved : goal.loop-input-preserved
loop-input-preserved g c =
    let buffer = c.read_some.new.buffer in
    let read = take c.in_ok-count.count buffer in
    let came : c.extend_from_slice.new.self.items ≡ c.loop-input.input.items ++ read =
    c.in_ok-extend_from_slice.ensures.items ∙ ap (λ l. c.loop-input.input.items ++ l) (take-append-le c.in_ok-count.count buffer _ c.in_ok-count.ensures.bound.0) in
    record {
      within = omega (arith, ap length came, length-append c.loop-input.input.items read, length-take c.in_ok-count.count buffer, c.in_ok-count.ensures.bound.0);
      came = subst (Consumes (g.R.Read.remaining c.args.reader.now) (g.R.Read.remaining c.read_some.new.reader)) (sym came)
          (Consumes-trans _ _ _ _ _ c.loop-input.invariant.came c.in_ok-count.ensures.bytes.0);
      counts = λ start counts. c.in_ok-count.ensures.counts start (c.loop-input.invariant.counts start counts);
    }

pub returns-in_err-extend_from_slice-clause-err : goal.returns-in_err-extend_from_slice-clause-err
returns-in_err-extend_from_slice-clause-err g c =
    let buffer = c.read_some.new.buffer in
    let read = take c.in_ok-count.count buffer in
    passed_fault c.from_residual-in_err-extend_from_slice.result Memory _ _ c.args.limit c.from_residual-in_err-extend_from_slice.ensures.1
    (record {
      bytes = c.loop-input.input.items ++ read;
      consumed = Consumes-trans _ _ _ _ _ c.loop-input.invariant.came c.in_ok-count.ensures.bytes.0;
      fewer = omega (arith, length-append c.loop-input.input.items read, length-take c.in_ok-count.count buffer, c.in_ok-count.ensures.bound.0);
    })

pub returns-in_err-extend_from_slice-clause-fault : goal.returns-in_err-extend_from_slice-clause-fault
returns-in_err-extend_from_slice-clause-fault g c = λ sound.
    let start = (g.R.SteadyRead.seen c.args.reader.now).interruptions in
    let now = c.loop-input.invariant.counts start (counts_none _ sound) in
    let is = is_error c.from_residual-in_err-extend_from_slice.result _ c.from_residual-in_err-extend_from_slice.ensures.1 in
    reported_none start _ c.read_some.new.retries _ (λ e. absurd cc) (c.in_ok-count.ensures.counts start now)
