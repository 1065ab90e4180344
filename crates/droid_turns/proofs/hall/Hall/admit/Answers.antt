use Rattle.std.proofs.Common.{◌≡◌, ◌+◌, ◌<◌, ◌∷◌, [], Bool, cond, length, length-append, ap, refl, sym, subst, arith}
use Rattle.std.specs.List.{AllByRecursion}
use Rattle.droid_turns.specs.Events.{Closed, NoneOpened, Opened}
use Rattle.droid_turns.specs.Halls.{Admits, LeadsInTurn, NoPeer, Unheard}
use Rattle.droid_turns.specs.Peers.{IsHearing, IsWhole}
use Rattle.droid_turns.specs.declared.departure.Departure.TheVariants as departures
use Rattle.droid_turns.proofs.Moments.{all_both, moves_as, moves_event, moves_events, moves_none}
use Rattle.droid_turns.proofs.HallSteps.{admits_enough, admits_nobody, calm_failed, calm_opened, leads_coming, leads_failing, leads_in_turn, leads_none}
use Rattle.droid_turns.proofs.hall.Hall.admit.Goals as goal

pub loop-alloc-init : goal.loop-alloc-init
loop-alloc-init g c =
    let hall = c.args.self.now in
    record {
      rooms = c.requires.rooms;
      first = c.requires.first;
      time = refl;
      share = refl;
      moves = moves_none g.C.Connections.does c.args.connections.now (LeadsInTurn c.args.rules IsHearing (Unheard hall.time) NoPeer (Unheard hall.time) NoPeer hall hall) (leads_none c.args.rules (Unheard hall.time) NoPeer hall, tt, tt);
    }

-- nobody waits
pub returns-then-not-accept-clause-moves : goal.returns-then-not-accept-clause-moves
returns-then-not-accept-clause-moves g c =
    let start = c.args.self.now in
    let hall = c.loop-alloc.self in
    let now = start.time in
    moves_event g.C.Connections.does c.args.connections.now c.loop-alloc.connections c.accept.new.self NoneOpened (LeadsInTurn c.args.rules IsHearing (Unheard now) NoPeer (Unheard now) NoPeer start hall) (Admits c.args.rules start hall)
    (λ first so. admits_nobody c.args.rules start hall first c.loop-alloc.invariant.time so)
    c.loop-alloc.invariant.moves
    (subst (λ (b : Bool). g.C.Connections.does c.loop-alloc.connections (cond b (Opened hall.opened) NoneOpened) c.accept.new.self) c.if-not-accept.true c.accept.ensures)

-- there is no seat, or enough came
pub returns-clause-moves : goal.returns-clause-moves
returns-clause-moves g c =
    let start = c.args.self.now in
    let hall = c.loop-alloc.self in
    let now = start.time in
    moves_as g.C.Connections.does c.args.connections.now c.loop-alloc.connections (LeadsInTurn c.args.rules IsHearing (Unheard now) NoPeer (Unheard now) NoPeer start hall) (Admits c.args.rules start hall)
    (λ steps so. admits_enough c.args.rules start hall steps so (c.may_accept.ensures.enough c.loop-alloc-test.false)) c.loop-alloc.invariant.moves

pub push_reserved-requires : goal.push_reserved-requires
push_reserved-requires g c =
    let hall = c.loop-alloc.self in
    omega (arith, c.may_accept.ensures.seat c.loop-alloc-test.true, c.loop-alloc.invariant.rooms.waiting, hall.waiting.ok.0)

-- one came
pub loop-alloc-preserved-in-Ok : goal.loop-alloc-preserved-in-Ok
loop-alloc-preserved-in-Ok g c =
    let start = c.args.self.now in
    let old = c.loop-alloc.self in
    let now = start.time in
    let rules = c.args.rules in
    let peer = c.in-Ok.peer in
    let new = record old { waiting = c.push_reserved.new.self; opened = old.opened + 1 } in
    let rooms = c.loop-alloc.invariant.rooms in
    let none : length old.served.items ≡ 0 = ap length c.loop-alloc.invariant.first in
    let seats : length old.waiting.items + length old.served.items < rules.seats = omega (arith, c.may_accept.ensures.seat c.loop-alloc-test.true, none) in
    record {
      rooms = record {
        waiting = omega (arith, rooms.waiting, c.push_reserved.ensures.capacity);
        served = rooms.served;
        places = omega (arith, seats, ap length c.push_reserved.ensures.items, length-append old.waiting.items (peer ∷ []));
        whole_waiting = subst (AllByRecursion IsWhole) (sym c.push_reserved.ensures.items) (all_both IsWhole old.waiting.items (peer ∷ []) rooms.whole_waiting (c.in-Ok.ensures.whole, tt));
        whole_served = rooms.whole_served;
      };
      first = c.loop-alloc.invariant.first;
      time = c.loop-alloc.invariant.time;
      share = c.loop-alloc.invariant.share;
      moves = moves_event g.C.Connections.does c.args.connections.now c.loop-alloc.connections c.accept.new.self (Opened old.opened) (LeadsInTurn rules IsHearing (Unheard now) NoPeer (Unheard now) NoPeer start old) (LeadsInTurn rules IsHearing (Unheard now) NoPeer (Unheard now) NoPeer start new)
          (λ first so. leads_in_turn rules IsHearing (Unheard now) NoPeer (Unheard now) NoPeer (Unheard now) NoPeer start old new first _ so
          (leads_coming rules now old new peer (sym c.loop-alloc.invariant.time) seats (c.may_accept.ensures.more c.loop-alloc-test.true) c.in-Ok.ensures c.push_reserved.ensures.items refl refl refl refl, calm_opened old.opened, (tt, tt)))
          c.loop-alloc.invariant.moves
          (subst (λ (b : Bool). g.C.Connections.does c.loop-alloc.connections (cond b (Opened old.opened) NoneOpened) c.accept.new.self) c.if-not-accept.false c.accept.ensures);
    }

-- there was no memory for it
pub loop-alloc-preserved : goal.loop-alloc-preserved
loop-alloc-preserved g c =
    let start = c.args.self.now in
    let old = c.loop-alloc.self in
    let now = start.time in
    let rules = c.args.rules in
    let new = record old { opened = old.opened + 1 } in
    let rooms = c.loop-alloc.invariant.rooms in
    let none : length old.served.items ≡ 0 = ap length c.loop-alloc.invariant.first in
    let seats : length old.waiting.items + length old.served.items < rules.seats = omega (arith, c.may_accept.ensures.seat c.loop-alloc-test.true, none) in
    record {
      rooms = record { waiting = rooms.waiting; served = rooms.served; places = rooms.places; whole_waiting = rooms.whole_waiting; whole_served = rooms.whole_served };
      first = c.loop-alloc.invariant.first;
      time = c.loop-alloc.invariant.time;
      share = c.loop-alloc.invariant.share;
      moves = moves_events g.C.Connections.does c.args.connections.now c.loop-alloc.connections c.accept.new.self c.close.new.self (Opened old.opened) (Closed old.opened departures.Memory)
          (LeadsInTurn rules IsHearing (Unheard now) NoPeer (Unheard now) NoPeer start old) (LeadsInTurn rules IsHearing (Unheard now) NoPeer (Unheard now) NoPeer start new)
          (λ first so. leads_in_turn rules IsHearing (Unheard now) NoPeer (Unheard now) NoPeer (Unheard now) NoPeer start old new first _ so
          (leads_failing rules now old new (sym c.loop-alloc.invariant.time) seats (c.may_accept.ensures.more c.loop-alloc-test.true) refl refl refl refl refl, calm_failed old.opened, (tt, (tt, tt))))
          c.loop-alloc.invariant.moves
          (subst (λ (b : Bool). g.C.Connections.does c.loop-alloc.connections (cond b (Opened old.opened) NoneOpened) c.accept.new.self) c.if-not-accept.false c.accept.ensures) c.close.ensures;
    }
