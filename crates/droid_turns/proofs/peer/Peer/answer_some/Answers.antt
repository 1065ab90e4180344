use Rattle.std.proofs.Common.{◌≡◌, ◌+◌, ◌++◌, [], List, sym, ap, ◌∙◌, refl, subst, arith}
use Rattle.std.proofs.lemmas.Bool.{false≢true}
use Rattle.droid_turns.specs.Events.{Read}
use Rattle.droid_turns.specs.Peers.{ByFrames, HearsSo, HearsSome}
use Rattle.droid_turns.specs.Steps.{Step}
use Rattle.droid_turns.proofs.ReadSteps.{AnswersOne, CameOne, answers_after, frames_few, hears_end, hears_more, hears_none}
use Rattle.droid_turns.proofs.Moments.{goes_as, goes_both, goes_moving, goes_none, moves_as}
use Rattle.droid_turns.proofs.PeerSteps.{happened_last}
use Rattle.droid_turns.proofs.peer.Peer.answer_some.Goals as goal

pub loop-init : goal.loop-init
loop-init g c = record {
  whole = c.requires.whole;
  id = refl;
  awake = c.requires.awake;
  within = λ few. few;
  goes = goes_none g.C.Connections.does g.H.Handler.handles g.H.Handler.settles c.args.connections.now c.args.handler.now (HearsSo c.args.now c.args.self.now c.args.self.now 0) (hears_none c.args.now c.args.self.now);
}

-- it may not be read any more
pub returns-then-not-may_be_read-clause-hears : goal.returns-then-not-may_be_read-clause-hears
returns-then-not-may_be_read-clause-hears g c =
    let start = c.args.self.now in
    let now = c.loop.self in
    goes_as g.C.Connections.does g.H.Handler.handles g.H.Handler.settles c.args.connections.now c.loop.connections c.args.handler.now c.loop.handler (HearsSo c.args.now start now c.loop.counter) (HearsSome c.args.now c.args.share start now)
    (λ steps so. record {
      goes = so.goes;
      count = c.loop.counter;
      few = omega arith;
      turns = so.turns;
      within = c.loop.invariant.within;
      dry = λ is. absurd (false≢true (sym c.loop.invariant.awake ∙ is));
      rests = c.may_be_read.ensures.rests c.if-not-may_be_read.true c.args.share c.loop.counter;
      counted = so.counted;
      limited = frames_few now.frames now.leaving c.loop.invariant.whole.counts;
    }) c.loop.invariant.goes

-- no further frame came
pub returns-in_default-clause-hears : goal.returns-in_default-clause-hears
returns-in_default-clause-hears g c =
    let start = c.args.self.now in
    let old = c.loop.self in
    let new = c.next_frame.new.self in
    goes_both g.C.Connections.does g.H.Handler.handles g.H.Handler.settles c.args.connections.now c.loop.connections c.next_frame.new.connections c.args.handler.now c.loop.handler c.loop.handler
    (HearsSo c.args.now start old c.loop.counter) _ (HearsSome c.args.now c.args.share start new)
    (λ first later so more.
    let all : HearsSo c.args.now start new c.loop.counter (first ++ later) = hears_end c.args.now start old new c.loop.counter first later c.loop.invariant.id c.next_frame.ensures.frames so more.0 more.1 in
    record {
      goes = all.goes;
      count = c.loop.counter;
      few = omega arith;
      turns = all.turns;
      within = λ few. c.next_frame.ensures.within (c.loop.invariant.within few);
      dry = λ is. let dry = more.2 is in record { nothing = happened_last (Read new.id []) first later dry.nothing; no_frame = dry.no_frame };
      rests = c.in_default.ensures.rests c.loop.counter;
      counted = all.counted;
      limited = frames_few new.frames new.leaving c.next_frame.ensures.whole.counts;
    }) c.loop.invariant.goes (goes_moving g.C.Connections.does g.H.Handler.handles g.H.Handler.settles c.loop.connections c.next_frame.new.connections c.loop.handler _ c.in_default.ensures.moves)

pub loop-preserved : goal.loop-preserved
loop-preserved g c =
    let start = c.args.self.now in
    let old = c.loop.self in
    let middle = c.next_frame.new.self in
    let new = c.answer.new.self in
    let frame = c.in-Some.frame in
    let reply = c.answer.ensures.answers.0 in
    let own : middle.id ≡ start.id = c.next_frame.ensures.id ∙ c.loop.invariant.id in
    record {
      whole = c.answer.ensures.whole;
      id = c.answer.ensures.id ∙ own;
      awake = c.answer.ensures.drained ∙ c.in-Some.ensures.awake;
      within = λ few. omega (arith, c.answer.ensures.read, c.next_frame.ensures.within (c.loop.invariant.within few));
      goes = goes_both g.C.Connections.does g.H.Handler.handles g.H.Handler.settles c.args.connections.now c.loop.connections c.next_frame.new.connections c.args.handler.now c.loop.handler c.answer.new.handler
          (HearsSo c.args.now start old c.loop.counter) (AnswersOne c.args.now start old middle frame reply) (HearsSo c.args.now start new (c.loop.counter + 1))
          (λ first later so more. subst (HearsSo c.args.now start new (c.loop.counter + 1)) (ap (λ (l : List Step). first ++ l) (sym more.parts))
          (hears_more c.args.now start old middle new c.loop.counter frame reply first more.came c.loop.invariant.id c.next_frame.ensures.id (omega (arith, c.answer.ensures.counted, c.next_frame.ensures.frames)) so more.lending more.turns c.answer.ensures.read
          (λ steps lends. c.answer.ensures.answers.2 c.args.now steps lends)))
          c.loop.invariant.goes
          (answers_after g.C.Connections.does g.H.Handler.handles g.H.Handler.settles c.args.now start old middle frame reply c.loop.connections c.next_frame.new.connections c.loop.handler c.answer.new.handler
          (moves_as g.C.Connections.does c.loop.connections c.next_frame.new.connections _ (CameOne c.args.now old middle frame) (λ steps all. record { lending = all.0; turns = all.1 }) c.in-Some.ensures.moves) c.answer.ensures.answers.1);
    }

-- its share was handled
pub returns-clause-hears : goal.returns-clause-hears
returns-clause-hears g c =
    let start = c.args.self.now in
    let now = c.loop.self in
    let all : c.loop.counter ≡ c.args.share = omega arith in
    goes_as g.C.Connections.does g.H.Handler.handles g.H.Handler.settles c.args.connections.now c.loop.connections c.args.handler.now c.loop.handler (HearsSo c.args.now start now c.loop.counter) (HearsSome c.args.now c.args.share start now)
    (λ steps so. record {
      goes = so.goes;
      count = c.loop.counter;
      few = omega arith;
      turns = so.turns;
      within = c.loop.invariant.within;
      dry = λ is. absurd (false≢true (sym c.loop.invariant.awake ∙ is));
      rests = ByFrames all;
      counted = so.counted;
      limited = frames_few now.frames now.leaving c.loop.invariant.whole.counts;
    }) c.loop.invariant.goes
