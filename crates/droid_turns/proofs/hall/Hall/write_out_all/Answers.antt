use Rattle.std.proofs.Common.{◌∷◌, [], ℕ, List, length, length-append, ap, refl, sym, subst, arith}
use Rattle.std.specs.List.{AllByRecursion}
use Rattle.std.proofs.lemmas.List.{nil_from_length}
use Rattle.droid_turns.specs.Events.{Closed}
use Rattle.droid_turns.specs.Halls.{Heard, IsWriting, LeadsInTurn, NoPeer, Served}
use Rattle.droid_turns.specs.Peers.{Departs, IsQuiet, IsWhole, Stays}
use Rattle.droid_turns.specs.Steps.{Moves, Step}
use Rattle.droid_turns.specs.declared.peer.Peer.{Peer}
use Rattle.droid_turns.proofs.Moments.{all_both, all_first, all_last, moves_as, moves_both, moves_none}
use Rattle.droid_turns.proofs.HallSteps.{closing_moves, emptied_served, leads_in_turn, leads_none, leads_writing}
use Rattle.droid_turns.proofs.OwnSteps.{calm}
use Rattle.droid_turns.proofs.Settling.{writing}
use Rattle.droid_turns.proofs.hall.Hall.write_out_all.Goals as goal

pub loop-peer-init : goal.loop-peer-init
loop-peer-init g c =
    let hall = c.args.self.now in
    record {
      rooms = c.requires.rooms;
      time = refl;
      opened = refl;
      share = refl;
      moves = λ rules same. moves_none g.C.Connections.does c.args.connections.now (LeadsInTurn rules IsWriting (Served hall.share rules.idle hall.time) (Heard hall.share hall.time) (Served hall.share rules.idle hall.time) (Heard hall.share hall.time) hall hall) (leads_none rules (Served hall.share rules.idle hall.time) (Heard hall.share hall.time) hall, tt, tt);
    }

pub write_out-requires : goal.write_out-requires
write_out-requires g c =
    let parts = subst (AllByRecursion IsWhole) c.in-Some.ensures.items c.loop-peer.invariant.rooms.whole_served in
    record { whole = (all_last IsWhole c.pop.new.self.items (c.in-Some.peer ∷ []) parts).0 }

pub push_reserved-requires : goal.push_reserved-requires
push_reserved-requires g c =
    let hall = c.loop-peer.self in
    let rooms = c.loop-peer.invariant.rooms in
    omega (arith, rooms.places, rooms.waiting, ap (λ (l : List Peer). length l) c.in-Some.ensures.items, length-append c.pop.new.self.items (c.in-Some.peer ∷ []), hall.waiting.ok.0)

-- it stays
pub loop-peer-preserved-in-None : goal.loop-peer-preserved-in-None
loop-peer-preserved-in-None g c =
    let start = c.args.self.now in
    let now = start.time in
    let share = start.share in
    let old = c.loop-peer.self in
    let peer = c.in-Some.peer in
    let it = c.write_out.new.self in
    let rest = c.pop.new.self.items in
    let new = record old { waiting = c.push_reserved.new.self; served = c.pop.new.self } in
    let rooms = c.loop-peer.invariant.rooms in
    let parts = subst (AllByRecursion IsWhole) c.in-Some.ensures.items rooms.whole_served in
    record {
      rooms = record {
        waiting = omega (arith, rooms.waiting, c.push_reserved.ensures.capacity);
        served = omega (arith, rooms.served, c.in-Some.ensures.capacity);
        places = omega (arith, rooms.places, ap (λ (l : List Peer). length l) c.in-Some.ensures.items, length-append rest (peer ∷ []), ap (λ (l : List Peer). length l) c.push_reserved.ensures.items, length-append old.waiting.items (it ∷ []));
        whole_waiting = subst (AllByRecursion IsWhole) (sym c.push_reserved.ensures.items) (all_both IsWhole old.waiting.items (it ∷ []) rooms.whole_waiting (c.write_out.ensures.whole, tt));
        whole_served = all_first IsWhole rest (peer ∷ []) parts;
      };
      time = c.loop-peer.invariant.time;
      opened = c.loop-peer.invariant.opened;
      share = c.loop-peer.invariant.share;
      moves = λ rules same. moves_both g.C.Connections.does c.args.connections.now c.loop-peer.connections c.write_out.new.connections
          (LeadsInTurn rules IsWriting (Served share rules.idle now) (Heard share now) (Served share rules.idle now) (Heard share now) start old) (λ (steps : List Step). Stays c.args.idle old.time peer it steps × IsQuiet peer.id steps)
          (LeadsInTurn rules IsWriting (Served share rules.idle now) (Heard share now) (Served share rules.idle now) (Heard share now) start new)
          (λ first later so wrote. leads_in_turn rules IsWriting (Served share rules.idle now) (Heard share now) (Served share rules.idle now) (Heard share now) (Served share rules.idle now) (Heard share now) start old new first later so (
            leads_writing rules share now old new peer it rest later (sym c.loop-peer.invariant.time) (sym c.loop-peer.invariant.share) c.in-Some.ensures.items refl c.push_reserved.ensures.items refl refl refl
                (record { id = c.write_out.ensures.id; drained = c.write_out.ensures.drained; leaving = c.write_out.ensures.leaving; read = c.write_out.ensures.read; held = c.write_out.ensures.held; frames = c.write_out.ensures.frames })
                (subst (λ (n : ℕ). Stays rules.idle n peer it later) c.loop-peer.invariant.time (subst (λ (n : ℕ). Stays n old.time peer it later) (sym same) wrote.0)) wrote.1,
            calm peer.id later wrote.0.goes.own,
            writing peer.id later wrote.0.goes.own wrote.1.nothing_handled,
          ))
          (c.loop-peer.invariant.moves rules same) c.in-None.ensures.writes;
    }

-- it is over
pub loop-peer-preserved : goal.loop-peer-preserved
loop-peer-preserved g c =
    let start = c.args.self.now in
    let now = start.time in
    let share = start.share in
    let old = c.loop-peer.self in
    let peer = c.in-Some.peer in
    let it = c.write_out.new.self in
    let why = c.in-Some-write_out.why in
    let rest = c.pop.new.self.items in
    let new = record old { served = c.pop.new.self } in
    let rooms = c.loop-peer.invariant.rooms in
    let parts = subst (AllByRecursion IsWhole) c.in-Some.ensures.items rooms.whole_served in
    record {
      rooms = record {
        waiting = rooms.waiting;
        served = omega (arith, rooms.served, c.in-Some.ensures.capacity);
        places = omega (arith, rooms.places, ap (λ (l : List Peer). length l) c.in-Some.ensures.items, length-append rest (peer ∷ []));
        whole_waiting = rooms.whole_waiting;
        whole_served = all_first IsWhole rest (peer ∷ []) parts;
      };
      time = c.loop-peer.invariant.time;
      opened = c.loop-peer.invariant.opened;
      share = c.loop-peer.invariant.share;
      moves = λ rules same. closing_moves g.C.Connections.does rules share now start old new peer it why rest c.args.connections.now c.loop-peer.connections c.write_out.new.connections c.close.new.self (c.loop-peer.invariant.moves rules same)
          (subst (λ (t : ℕ). Moves g.C.Connections.does c.loop-peer.connections c.write_out.new.connections (λ (steps : List Step). Departs rules.idle t peer it why steps × IsQuiet peer.id steps)) c.loop-peer.invariant.time
          (subst (λ (n : ℕ). Moves g.C.Connections.does c.loop-peer.connections c.write_out.new.connections (λ (steps : List Step). Departs n old.time peer it why steps × IsQuiet peer.id steps)) (sym same) c.in-Some-write_out.ensures.writes))
          (subst (λ (i : ℕ). g.C.Connections.does c.write_out.new.connections (Closed i why) c.close.new.self) c.write_out.ensures.id c.close.ensures) (sym c.loop-peer.invariant.time) (sym c.loop-peer.invariant.share) c.in-Some.ensures.items refl refl refl refl refl;
    }

pub returns-clause-moves : goal.returns-clause-moves
returns-clause-moves g c = λ rules same.
    let start = c.args.self.now in
    let now = start.time in
    let share = start.share in
    let old = c.loop-peer.self in
    let new = record old { served = c.pop.new.self } in
    let was = nil_from_length old.served.items (omega (arith, c.in_default.ensures.cases.0, old.served.ok.0)) in
    let is = nil_from_length c.pop.new.self.items (omega (arith, c.in_default.ensures.cases.1, c.pop.new.self.ok.0)) in
    moves_as g.C.Connections.does c.args.connections.now c.loop-peer.connections (LeadsInTurn rules IsWriting (Served share rules.idle now) (Heard share now) (Served share rules.idle now) (Heard share now) start old) (LeadsInTurn rules IsWriting (Served share rules.idle now) (Heard share now) (Served share rules.idle now) NoPeer start new)
    (λ steps leads. (emptied_served rules (Served share rules.idle now) (Heard share now) (Served share rules.idle now) (Heard share now) start old new steps was is refl refl refl refl leads.0, leads.1, leads.2)) (c.loop-peer.invariant.moves rules same)
