use Rattle.std.proofs.Common.{◌≡◌, ◌+◌, ◌≤◌, ℕ, Result, refl, arith}
use Rattle.std.specs.Prelude.{IfSome, IsErrAnd, IsErrOf}
use Rattle.droid_frame.specs.declared.frame.Frame.{Frame}
use Rattle.droid_frame.specs.declared.reply.Reply.{Reply}
use Rattle.droid_frame.specs.declared.streams.fault.FrameFault.TheVariants.{Read}
use Rattle.droid_wire.specs.declared.serve_fault.ServeFault.TheVariants as faults
use Rattle.droid_frame.specs.InTurn.{ReportsFaultInTurn}
use Rattle.droid_wire.specs.Turns.{ReadsFrame, WritesReply}
use Rattle.droid_wire.specs.declared.stream_end.Ended.{Ended}
use Rattle.droid_wire.specs.declared.serve_fault.ServeFault.{ServeFault}
use Rattle.droid_wire.specs.Serving.{Outcome}
use Rattle.droid_wire.proofs.Ends.{stopped, stream_closed, turns_done}
use Rattle.droid_wire.proofs.GoingOn.{goes_further, goes_nowhere, goes_within}
use Rattle.droid_frame.proofs.InTurn.{lasts_in_one, over_next, over_none, reported_idle, reported_next}
use Rattle.droid_wire.proofs.Passing.{if_err_same, same_fault}
use Rattle.droid_wire.proofs.SoFar.{so_far_more, so_far_none}
use Rattle.droid_wire.proofs.server.serve.Goals as goal

pub loop-init : goal.loop-init
loop-init g c = record {
  so_far = λ setting history stands. so_far_none setting history (g.R.Read.remaining c.args.reader.now) (g.W.Write.contents c.args.writer.now) c.args.service.now 0 0 refl refl stands;
  room = omega arith;
  within = omega arith;
  reads = λ sound. over_none g.R.SteadyRead.seen (ReadsFrame g.R.Read.remaining) c.args.reader.now 0 refl sound;
  writes = λ sound endless. (over_none g.W.SteadyWrite.seen (WritesReply g.W.Write.contents) c.args.writer.now 0 refl sound, endless);
  goes_on = λ setting history stands. goes_nowhere setting history 0 c.args.service.now stands;
  limits = refl;
  registry = refl;
}

pub loop-preserved : goal.loop-preserved
loop-preserved g c =
    let size : c.in-Some.size ≤ 1048658 = rw c.in-Some.is at c.in_ok-size.ensures.size in
    let read : (frame : Frame) × (ReadsFrame g.R.Read.remaining).whole frame c.loop.reader c.answer_next.new.reader = rw c.in-Some.is at c.in_ok-size.ensures.read in
    let wrote : (sent : Frame × Reply) × (WritesReply g.W.Write.contents).whole sent c.loop.writer c.answer_next.new.writer = rw c.in-Some.is at c.in_ok-size.ensures.wrote in
    record {
      so_far = λ setting history stands.
          so_far_more setting history (g.R.Read.remaining c.args.reader.now) (g.R.Read.remaining c.loop.reader) (g.R.Read.remaining c.answer_next.new.reader)
          (g.W.Write.contents c.args.writer.now) (g.W.Write.contents c.loop.writer) (g.W.Write.contents c.answer_next.new.writer)
          c.loop.service c.answer_next.new.service c.loop.counter c.loop.written c.in-Some.size c.in_ok-size.field-0 c.in-Some.is
          (c.loop.invariant.so_far setting history stands) (λ here standing. c.in_ok-size.ensures.gives setting here standing);
      room = omega (arith, size, c.loop.invariant.room);
      within = omega (arith, c.loop-test.true);
      reads = λ sound.
          let now = c.loop.invariant.reads sound in
          over_next g.R.SteadyRead.seen (ReadsFrame g.R.Read.remaining) c.args.reader.now c.loop.reader c.answer_next.new.reader c.loop.counter _ read.0 refl now read.1
          (lasts_in_one g.R.SteadyRead.seen (ReadsFrame g.R.Read.remaining) c.loop.reader c.answer_next.new.reader _ now.sound (c.in_ok-size.ensures.read_fault now.sound) (λ e. absurd cc));
      writes = λ sound endless.
          let now = c.loop.invariant.writes sound endless in
          let reported = c.in_ok-size.ensures.write_fault now.0.sound now.1 in (
            over_next g.W.SteadyWrite.seen (WritesReply g.W.Write.contents) c.args.writer.now c.loop.writer c.answer_next.new.writer c.loop.counter _ wrote.0 refl now.0 wrote.1
                (lasts_in_one g.W.SteadyWrite.seen (WritesReply g.W.Write.contents) c.loop.writer c.answer_next.new.writer _ now.0.sound reported.0 (λ e. absurd e)),
            reported.1,
          );
      goes_on = λ setting history stands.
          goes_further setting history c.loop.counter 1 (c.loop.counter + 1) c.loop.service c.answer_next.new.service (omega arith) (c.loop.invariant.goes_on setting history stands) (λ here standing. c.in_ok-size.ensures.goes_on setting here standing);
      limits = cc (c.in_ok-size.ensures.limits, c.loop.invariant.limits);
      registry = cc (c.in_ok-size.ensures.registry, c.loop.invariant.registry);
    }

pub returns-in_err-size-clause-outcome : goal.returns-in_err-size-clause-outcome
returns-in_err-size-clause-outcome g c = λ setting history stands.
    let known = g.R.Read.remaining c.args.reader.now in
    let more = g.R.Read.remaining c.answer_next.new.reader in
    let old = g.W.Write.contents c.args.writer.now in
    let new = g.W.Write.contents c.answer_next.new.writer in
    let after = c.answer_next.new.service in
    let fault = c.in_err-size.field-0.0 in
    if_err_same c.from_residual.result fault (λ (r : Result Ended ServeFault). IfSome known (λ input. Outcome setting history c.args.turns input more old new after r)) c.from_residual.ensures.1
    (stopped setting history known (g.R.Read.remaining c.loop.reader) more old (g.W.Write.contents c.loop.writer) new c.loop.service after c.loop.counter c.args.turns c.loop.written fault c.loop-test.true
    (c.loop.invariant.so_far setting history stands) (λ here standing. c.in_err-size.ensures.gives setting here standing))

pub returns-in_err-size-clause-goes_on : goal.returns-in_err-size-clause-goes_on
returns-in_err-size-clause-goes_on g c = λ setting history stands.
    goes_further setting history c.loop.counter 1 c.args.turns c.loop.service c.answer_next.new.service (omega (arith, c.loop-test.true)) (c.loop.invariant.goes_on setting history stands) (λ here standing. c.in_err-size.ensures.goes_on setting here standing)

pub returns-in-None-clause-outcome : goal.returns-in-None-clause-outcome
returns-in-None-clause-outcome g c = λ setting history stands.
    stream_closed setting history (g.R.Read.remaining c.args.reader.now) (g.R.Read.remaining c.loop.reader) (g.R.Read.remaining c.answer_next.new.reader)
    (g.W.Write.contents c.args.writer.now) (g.W.Write.contents c.loop.writer) (g.W.Write.contents c.answer_next.new.writer)
    c.loop.service c.answer_next.new.service c.loop.counter c.args.turns c.loop.written c.in_ok-size.field-0 c.in-None.is c.loop-test.true
    (c.loop.invariant.so_far setting history stands) (λ here standing. c.in_ok-size.ensures.gives setting here standing)

pub returns-in-None-clause-goes_on : goal.returns-in-None-clause-goes_on
returns-in-None-clause-goes_on g c = λ setting history stands.
    goes_further setting history c.loop.counter 1 c.args.turns c.loop.service c.answer_next.new.service (omega (arith, c.loop-test.true)) (c.loop.invariant.goes_on setting history stands) (λ here standing. c.in_ok-size.ensures.goes_on setting here standing)

pub returns-in_err-size-clause-read_fault : goal.returns-in_err-size-clause-read_fault
returns-in_err-size-clause-read_fault g c = λ sound.
    let now = c.loop.invariant.reads sound in
    let fault = c.in_err-size.field-0.0 in
    let Does = ReadsFrame g.R.Read.remaining in
    if_err_same c.from_residual.result fault
    (λ (r : Result Ended ServeFault). ReportsFaultInTurn g.R.SteadyRead.seen Does (λ count. count ≤ c.args.turns) c.args.reader.now c.answer_next.new.reader (IsErrOf r (faults.Frame Read))) c.from_residual.ensures.1
    (reported_next g.R.SteadyRead.seen Does (λ count. count ≤ c.args.turns) c.args.reader.now c.loop.reader c.answer_next.new.reader c.loop.counter _ _ now c.loop.invariant.within (omega (arith, c.loop-test.true))
    (c.in_err-size.ensures.read_fault now.sound) (λ e. same_fault fault (faults.Frame Read) e) (λ e. same_fault fault (faults.Frame Read) e))

pub returns-in_err-size-clause-write_fault : goal.returns-in_err-size-clause-write_fault
returns-in_err-size-clause-write_fault g c = λ sound endless.
    let now = c.loop.invariant.writes sound endless in
    let fault = c.in_err-size.field-0.0 in
    let Does = WritesReply g.W.Write.contents in
    if_err_same c.from_residual.result fault
    (λ (r : Result Ended ServeFault). ReportsFaultInTurn g.W.SteadyWrite.seen Does (λ count. count ≤ c.args.turns) c.args.writer.now c.answer_next.new.writer
    (IsErrAnd r (λ fault. (written : ℕ) × (fault ≡ faults.Write written)))) c.from_residual.ensures.1
    (reported_next g.W.SteadyWrite.seen Does (λ count. count ≤ c.args.turns) c.args.writer.now c.loop.writer c.answer_next.new.writer c.loop.counter _ _ now.0 c.loop.invariant.within (omega (arith, c.loop-test.true))
    (c.in_err-size.ensures.write_fault now.0.sound now.1).0 (λ e. e) (λ e. e))

pub returns-in-None-clause-read_fault : goal.returns-in-None-clause-read_fault
returns-in-None-clause-read_fault g c = λ sound.
    let now = c.loop.invariant.reads sound in
    reported_next g.R.SteadyRead.seen (ReadsFrame g.R.Read.remaining) (λ count. count ≤ c.args.turns) c.args.reader.now c.loop.reader c.answer_next.new.reader c.loop.counter _ _ now c.loop.invariant.within (omega (arith, c.loop-test.true))
    (c.in_ok-size.ensures.read_fault now.sound) (λ e. absurd cc) (λ e. absurd cc)

pub returns-in-None-clause-write_fault : goal.returns-in-None-clause-write_fault
returns-in-None-clause-write_fault g c = λ sound endless.
    let now = c.loop.invariant.writes sound endless in
    reported_next g.W.SteadyWrite.seen (WritesReply g.W.Write.contents) (λ count. count ≤ c.args.turns) c.args.writer.now c.loop.writer c.answer_next.new.writer c.loop.counter _ _ now.0 c.loop.invariant.within (omega (arith, c.loop-test.true))
    (c.in_ok-size.ensures.write_fault now.0.sound now.1).0 (λ e. absurd e) (λ e. absurd e)

pub returns-clause-outcome : goal.returns-clause-outcome
returns-clause-outcome g c = λ setting history stands.
    turns_done setting history (g.R.Read.remaining c.args.reader.now) (g.R.Read.remaining c.loop.reader) (g.W.Write.contents c.args.writer.now) (g.W.Write.contents c.loop.writer)
    c.loop.service c.loop.counter c.args.turns c.loop.written (omega (arith, c.loop-test.false, c.loop.invariant.within)) (c.loop.invariant.so_far setting history stands)

pub returns-clause-read_fault : goal.returns-clause-read_fault
returns-clause-read_fault g c = λ sound.
    reported_idle g.R.SteadyRead.seen (ReadsFrame g.R.Read.remaining) (λ count. count ≤ c.args.turns) c.args.reader.now c.loop.reader c.loop.counter _ (c.loop.invariant.reads sound) c.loop.invariant.within (λ e. absurd cc)

pub returns-clause-write_fault : goal.returns-clause-write_fault
returns-clause-write_fault g c = λ sound endless.
    reported_idle g.W.SteadyWrite.seen (WritesReply g.W.Write.contents) (λ count. count ≤ c.args.turns) c.args.writer.now c.loop.writer c.loop.counter _ (c.loop.invariant.writes sound endless).0 c.loop.invariant.within (λ e. absurd e)

pub returns-clause-goes_on : goal.returns-clause-goes_on
returns-clause-goes_on g c = λ setting history stands.
    goes_within setting history c.loop.counter c.args.turns c.loop.service c.loop.invariant.within (c.loop.invariant.goes_on setting history stands)
