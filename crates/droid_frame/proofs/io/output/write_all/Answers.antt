use Rattle.std.proofs.Common.{◌≡◌, ◌-◌, ◌+◌, length, take, drop, subst, arith}
use Rattle.std.proofs.lemmas.List.{length-take, length-drop}
use Rattle.droid_frame.specs.Writes.{Takes}
use Rattle.droid_frame.proofs.Parts.{wrote_more}
use Rattle.droid_frame.proofs.Stopping.{takes_more}
use Rattle.droid_frame.proofs.io.output.write_all.Goals as goal

pub returns-in_default-clause-counts : goal.returns-in_default-clause-counts
returns-in_default-clause-counts g c = λ start counts. c.in_default.ensures.counts start (c.loop-rest.invariant.counts start counts)

pub loop-rest-preserved : goal.loop-rest-preserved
loop-rest-preserved g c =
    let rest = c.loop-rest.rest.now in
    let bytes = c.args.bytes.now in
    let count = c.in-Some.count in
    let more = wrote_more _ _ _ c.args.bytes.now rest count c.loop-rest.invariant.rest c.in-Some.ensures.bound.1 c.loop-rest.invariant.written c.in-Some.ensures.bytes in
    let place : (length bytes - length rest) + count ≡ length bytes - length (take (length rest - count) (drop count rest)) =
    omega (arith, c.in-Some.ensures.bound.1, c.loop-rest.invariant.rest.shorter, length-take (length rest - count) (drop count rest), length-drop count rest) in
    record {
      written = more.written;
      rest = more.rest;
      room = subst (Takes (g.W.SteadyWrite.room c.args.writer.now) (g.W.SteadyWrite.room c.write_some.new.writer)) place (takes_more _ _ _ (length bytes - length rest) count c.loop-rest.invariant.room c.in-Some.ensures.room);
      counts = λ start counts. c.in-Some.ensures.counts start (c.loop-rest.invariant.counts start counts);
      counted = omega (arith, c.in-Some.ensures.bound.1, length-take (length rest - count) (drop count rest), length-drop count rest);
    }
