use Rattle.std.proofs.Common.{◌++◌, [], None, Some, sym, ◌∙◌, arith, refl}
use Rattle.std.proofs.lemmas.Bool.{false≢true}
use Rattle.droid_turns.specs.Events.{Read}
use Rattle.droid_turns.specs.Peers.{ByBytes, ByLeaving}
use Rattle.droid_turns.proofs.ReadSteps.{ReadsSo, reads_so_more, reads_so_none, takes_so}
use Rattle.droid_turns.proofs.Moments.{moves_as, moves_both, moves_none}
use Rattle.droid_turns.proofs.PeerSteps.{happened_last}
use Rattle.droid_turns.proofs.peer.Peer.next_frame.Goals as goal

pub loop-frame-init : goal.loop-frame-init
loop-frame-init g c = record {
  whole = c.requires.whole;
  id = refl;
  stays = c.requires.stays;
  awake = c.requires.awake;
  queue = refl;
  frames = refl;
  within = λ few. few;
  moves = moves_none g.C.Connections.does c.args.connections.now (ReadsSo c.args.now c.args.self.now c.args.self.now) (reads_so_none c.args.now c.args.self.now);
}

-- a frame is whole
pub returns-in-Some-clause-moves : goal.returns-in-Some-clause-moves
returns-in-Some-clause-moves g c =
    let start = c.args.self.now in
    let old = c.loop-frame.self in
    let new = c.take.new.self in
    moves_as g.C.Connections.does c.args.connections.now c.loop-frame.connections (ReadsSo c.args.now start old) _
    (λ steps so.
    let took = takes_so c.args.now start old new (Some c.in-Some.frame) steps c.loop-frame.invariant.id c.take.ensures.read so (c.in-Some.ensures.takes c.args.now) in
    (took.0, took.1, λ is. absurd (false≢true (sym (c.take.ensures.drained ∙ c.loop-frame.invariant.awake) ∙ is)))) c.loop-frame.invariant.moves

-- it leaves
pub returns-then-is_some-clause-rests : goal.returns-then-is_some-clause-rests
returns-then-is_some-clause-rests g c = λ count. ByLeaving (sym c.is_some.ensures ∙ c.if-is_some.true)

pub returns-then-is_some-clause-moves : goal.returns-then-is_some-clause-moves
returns-then-is_some-clause-moves g c =
    let start = c.args.self.now in
    let old = c.loop-frame.self in
    let new = c.take.new.self in
    moves_as g.C.Connections.does c.args.connections.now c.loop-frame.connections (ReadsSo c.args.now start old) _
    (λ steps so.
    let took = takes_so c.args.now start old new None steps c.loop-frame.invariant.id c.take.ensures.read so (c.in-None.ensures.takes c.args.now) in
    (took.0, took.1, λ is. absurd (false≢true (sym (c.take.ensures.drained ∙ c.loop-frame.invariant.awake) ∙ is)))) c.loop-frame.invariant.moves

-- enough was read in this turn
pub returns-then-self-share-clause-rests : goal.returns-then-self-share-clause-rests
returns-then-self-share-clause-rests g c = λ count. ByBytes (omega (arith, c.if-self-share.true))

pub returns-then-self-share-clause-moves : goal.returns-then-self-share-clause-moves
returns-then-self-share-clause-moves g c =
    let start = c.args.self.now in
    let old = c.loop-frame.self in
    let new = c.take.new.self in
    moves_as g.C.Connections.does c.args.connections.now c.loop-frame.connections (ReadsSo c.args.now start old) _
    (λ steps so.
    let took = takes_so c.args.now start old new None steps c.loop-frame.invariant.id c.take.ensures.read so (c.in-None.ensures.takes c.args.now) in
    (took.0, took.1, λ is. absurd (false≢true (sym (c.take.ensures.drained ∙ c.loop-frame.invariant.awake) ∙ is)))) c.loop-frame.invariant.moves

-- nothing more came
pub returns-then-not-receive-clause-moves : goal.returns-then-not-receive-clause-moves
returns-then-not-receive-clause-moves g c =
    let start = c.args.self.now in
    let old = c.loop-frame.self in
    let middle = c.take.new.self in
    let new = c.receive.new.self in
    moves_both g.C.Connections.does c.args.connections.now c.loop-frame.connections c.receive.new.connections (ReadsSo c.args.now start old) _ _
    (λ first later so more.
    let took = takes_so c.args.now start old middle None first c.loop-frame.invariant.id c.take.ensures.read so (c.in-None.ensures.takes c.args.now) in
    let here : ReadsSo c.args.now start middle first = record { goes = took.0; turns = took.1 } in
    let all : ReadsSo c.args.now start new (first ++ later) = reads_so_more c.args.now start middle new first later (c.take.ensures.id ∙ c.loop-frame.invariant.id) here more.0 more.1 in
    (all.goes, all.turns, λ is. let dry = more.2 is in record { nothing = happened_last (Read new.id []) first later dry.nothing; no_frame = dry.no_frame }))
    c.loop-frame.invariant.moves c.receive.ensures.moves

pub returns-then-not-receive-clause-rests : goal.returns-then-not-receive-clause-rests
returns-then-not-receive-clause-rests g c = λ count. c.receive.ensures.rests c.if-not-receive.true c.args.share count

pub loop-frame-preserved : goal.loop-frame-preserved
loop-frame-preserved g c =
    let start = c.args.self.now in
    let old = c.loop-frame.self in
    let middle = c.take.new.self in
    let new = c.receive.new.self in
    let on = c.receive.ensures.goes_on c.if-not-receive.false in
    record {
      whole = c.receive.ensures.whole;
      id = c.receive.ensures.id ∙ (c.take.ensures.id ∙ c.loop-frame.invariant.id);
      stays = on.0;
      awake = on.1;
      queue = c.receive.ensures.queue ∙ (c.take.ensures.queue ∙ c.loop-frame.invariant.queue);
      frames = c.receive.ensures.frames ∙ (c.take.ensures.frames ∙ c.loop-frame.invariant.frames);
      within = λ few. omega (arith, c.receive.ensures.bound, c.if-self-share.false);
      moves = moves_both g.C.Connections.does c.args.connections.now c.loop-frame.connections c.receive.new.connections (ReadsSo c.args.now start old) _ (ReadsSo c.args.now start new)
          (λ first later so more.
          let took = takes_so c.args.now start old middle None first c.loop-frame.invariant.id c.take.ensures.read so (c.in-None.ensures.takes c.args.now) in
          let here : ReadsSo c.args.now start middle first = record { goes = took.0; turns = took.1 } in
          reads_so_more c.args.now start middle new first later (c.take.ensures.id ∙ c.loop-frame.invariant.id) here more.0 more.1)
          c.loop-frame.invariant.moves c.receive.ensures.moves;
    }
