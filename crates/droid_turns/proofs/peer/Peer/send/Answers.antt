use Rattle.std.proofs.Common.{◌≡◌, ◌++◌, ◌∷◌, [], List, length, take, sym, ap, refl, subst, arith, inl, inr, length-drop}
use Rattle.std.proofs.lemmas.List.{nil_from_length}
use Rattle.droid_turns.specs.Events.{Unwritten, Wrote}
use Rattle.droid_turns.specs.Steps.{Happened, Happens, Step}
use Rattle.droid_turns.proofs.Moments.{moves_as, moves_both, moves_none, moves_one}
use Rattle.droid_turns.proofs.PeerSteps.{happened_here}
use Rattle.droid_turns.proofs.WriteSteps.{SendsSo, quiet_unwritten, quiet_wrote, sends_more, sends_none, unwritten, wrote_none, wrote_some}
use Rattle.droid_turns.proofs.peer.Peer.send.Goals as goal

pub loop-connections-init : goal.loop-connections-init
loop-connections-init g c = record {
  whole = c.requires.whole;
  id = refl;
  drained = refl;
  leaving = refl;
  read = refl;
  frames = refl;
  held = refl;
  moves = moves_none g.C.Connections.does c.args.connections.now (SendsSo c.args.now c.args.self.now c.args.self.now) (sends_none c.args.now c.args.self.now);
}

-- it took some
pub loop-connections-preserved : goal.loop-connections-preserved
loop-connections-preserved g c =
    let start = c.args.self.now in
    let old = c.loop-connections.self in
    let shown = c.front.result.now in
    let new = record old { queue = c.advance.new.self; active = c.args.now } in
    record {
      whole = record { ordered = c.loop-connections.invariant.whole.ordered; within = c.loop-connections.invariant.whole.within; sized = c.loop-connections.invariant.whole.sized; fed = c.loop-connections.invariant.whole.fed; no_frame = c.loop-connections.invariant.whole.no_frame; counts = c.loop-connections.invariant.whole.counts };
      id = c.loop-connections.invariant.id;
      drained = c.loop-connections.invariant.drained;
      leaving = c.loop-connections.invariant.leaving;
      read = c.loop-connections.invariant.read;
      frames = c.loop-connections.invariant.frames;
      held = c.loop-connections.invariant.held;
      moves = moves_both g.C.Connections.does c.args.connections.now c.loop-connections.connections c.write.new.self (SendsSo c.args.now start old) (λ (steps : List Step). steps ≡ Happens (Wrote old.id (take c.in-Bytes.count shown)) ∷ []) (SendsSo c.args.now start new)
          (λ first later so is. subst (λ (l : List Step). SendsSo c.args.now start new (first ++ l)) (sym is)
          (sends_more c.args.now start old new first (Happens (Wrote old.id (take c.in-Bytes.count shown))) c.loop-connections.invariant.id so
          (wrote_some old new c.args.now c.in-Bytes.count old.queue.front shown c.front.ensures.front (omega (arith, c.in-Bytes.ensures.bound, c.front.ensures.length)) c.in-Bytes.ensures.bound (omega (arith, c.if-count-eq0.false)) c.advance.ensures refl refl refl)
          (quiet_wrote old.id (take c.in-Bytes.count shown))))
          c.loop-connections.invariant.moves (moves_one g.C.Connections.does c.loop-connections.connections c.write.new.self (Wrote old.id (take c.in-Bytes.count shown)) _ c.in-Bytes.ensures.went refl);
    }

pub advance-requires : goal.advance-requires
advance-requires g c = omega (arith, c.in-Bytes.ensures.bound, c.front.ensures.length)

pub loop-connections-smaller : goal.loop-connections-smaller
loop-connections-smaller g c =
    omega (arith, ap length c.advance.ensures, length-drop c.in-Bytes.count c.loop-connections.self.queue.bytes, c.if-count-eq0.false, c.len.ensures, c.loop-connections-test.true)

-- it takes nothing
pub returns-then-count-eq0-clause-moves : goal.returns-then-count-eq0-clause-moves
returns-then-count-eq0-clause-moves g c =
    let start = c.args.self.now in
    let old = c.loop-connections.self in
    moves_both g.C.Connections.does c.args.connections.now c.loop-connections.connections c.write.new.self (SendsSo c.args.now start old) (λ (steps : List Step). steps ≡ Happens (Wrote old.id []) ∷ []) _
    (λ first later so is.
    let all : SendsSo c.args.now start old (first ++ Happens (Wrote old.id []) ∷ []) =
    sends_more c.args.now start old old first (Happens (Wrote old.id [])) c.loop-connections.invariant.id so (wrote_none old c.args.now) (quiet_wrote old.id []) in
    let same : first ++ later ≡ first ++ Happens (Wrote old.id []) ∷ [] = ap (λ (l : List Step). first ++ l) is in
    let sent : SendsSo c.args.now start old (first ++ later) = subst (SendsSo c.args.now start old) (sym same) all in
    (sent.goes, sent.quiet, inr (subst (Happened (Wrote old.id [])) (sym same) (happened_here (Wrote old.id []) first))))
    c.loop-connections.invariant.moves
    (moves_one g.C.Connections.does c.loop-connections.connections c.write.new.self (Wrote old.id []) _ (subst (λ n. g.C.Connections.does c.loop-connections.connections (Wrote old.id (take n c.front.result.now)) c.write.new.self) c.if-count-eq0.true c.in-Bytes.ensures.went) refl)

pub returns-in-Nothing-clause-moves : goal.returns-in-Nothing-clause-moves
returns-in-Nothing-clause-moves g c =
    let start = c.args.self.now in
    let old = c.loop-connections.self in
    moves_both g.C.Connections.does c.args.connections.now c.loop-connections.connections c.write.new.self (SendsSo c.args.now start old) (λ (steps : List Step). steps ≡ Happens (Wrote old.id []) ∷ []) _
    (λ first later so is.
    let all : SendsSo c.args.now start old (first ++ Happens (Wrote old.id []) ∷ []) =
    sends_more c.args.now start old old first (Happens (Wrote old.id [])) c.loop-connections.invariant.id so (wrote_none old c.args.now) (quiet_wrote old.id []) in
    let same : first ++ later ≡ first ++ Happens (Wrote old.id []) ∷ [] = ap (λ (l : List Step). first ++ l) is in
    let sent : SendsSo c.args.now start old (first ++ later) = subst (SendsSo c.args.now start old) (sym same) all in
    (sent.goes, sent.quiet, inr (subst (Happened (Wrote old.id [])) (sym same) (happened_here (Wrote old.id []) first))))
    c.loop-connections.invariant.moves
    (moves_one g.C.Connections.does c.loop-connections.connections c.write.new.self (Wrote old.id []) _ c.in-Nothing.ensures.went refl)

-- it is broken
pub returns-in-Broken-clause-moves : goal.returns-in-Broken-clause-moves
returns-in-Broken-clause-moves g c =
    let start = c.args.self.now in
    let old = c.loop-connections.self in
    moves_both g.C.Connections.does c.args.connections.now c.loop-connections.connections c.write.new.self (SendsSo c.args.now start old) (λ (steps : List Step). steps ≡ Happens (Unwritten old.id) ∷ []) _
    (λ first later so is.
    let all : SendsSo c.args.now start old (first ++ Happens (Unwritten old.id) ∷ []) =
    sends_more c.args.now start old old first (Happens (Unwritten old.id)) c.loop-connections.invariant.id so (unwritten old c.args.now) (quiet_unwritten old.id) in
    let same : first ++ later ≡ first ++ Happens (Unwritten old.id) ∷ [] = ap (λ (l : List Step). first ++ l) is in
    let sent : SendsSo c.args.now start old (first ++ later) = subst (SendsSo c.args.now start old) (sym same) all in
    (sent.goes, sent.quiet, subst (Happened (Unwritten old.id)) (sym same) (happened_here (Unwritten old.id) first)))
    c.loop-connections.invariant.moves
    (moves_one g.C.Connections.does c.loop-connections.connections c.write.new.self (Unwritten old.id) _ c.in-Broken.ensures.went refl)

-- nothing waits any more
pub returns-clause-moves : goal.returns-clause-moves
returns-clause-moves g c =
    let old = c.loop-connections.self in
    moves_as g.C.Connections.does c.args.connections.now c.loop-connections.connections (SendsSo c.args.now c.args.self.now old) _
    (λ steps so. (so.goes, so.quiet, inl (nil_from_length old.queue.bytes (omega (arith, c.loop-connections-test.false, c.len.ensures))))) c.loop-connections.invariant.moves
