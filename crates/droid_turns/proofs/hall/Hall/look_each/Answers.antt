use Rattle.std.proofs.Common.{◌∷◌, [], List, length, length-append, ap, refl, sym, subst, ◌∙◌, arith}
use Rattle.std.specs.List.{AllByRecursion}
use Rattle.std.proofs.lemmas.List.{nil_from_length}
use Rattle.droid_turns.specs.Halls.{LeadsInTurn, Looked, NoPeer, Unheard}
use Rattle.droid_turns.specs.Peers.{IsHearing, IsWhole, Looks}
use Rattle.droid_turns.specs.declared.peer.Peer.{Peer}
use Rattle.droid_turns.proofs.Moments.{all_both, all_first, all_last, moves_as, moves_both, moves_none}
use Rattle.droid_turns.proofs.HallSteps.{emptied_waiting, leads_in_turn, leads_looking, leads_none}
use Rattle.droid_turns.proofs.OwnSteps.{calm}
use Rattle.droid_turns.proofs.hall.Hall.look_each.Goals as goal

pub loop-peer-init : goal.loop-peer-init
loop-peer-init g c =
    let hall = c.args.self.now in
    record {
      rooms = c.requires.rooms;
      time = refl;
      share = refl;
      moves = λ rules. moves_none g.C.Connections.does c.args.connections.now (LeadsInTurn rules IsHearing (Unheard hall.time) (Looked hall.time) (Unheard hall.time) (Looked hall.time) hall hall) (leads_none rules (Unheard hall.time) (Looked hall.time) hall, tt, tt);
    }

pub look-requires : goal.look-requires
look-requires g c =
    let parts = subst (AllByRecursion IsWhole) c.in-Some.ensures.items c.loop-peer.invariant.rooms.whole_waiting in
    record { whole = (all_last IsWhole c.pop.new.self.items (c.in-Some.peer ∷ []) parts).0 }

pub push_reserved-requires : goal.push_reserved-requires
push_reserved-requires g c =
    let hall = c.loop-peer.self in
    let rooms = c.loop-peer.invariant.rooms in
    omega (arith, rooms.places, rooms.served, ap (λ (l : List Peer). length l) c.in-Some.ensures.items, length-append c.pop.new.self.items (c.in-Some.peer ∷ []), hall.served.ok.0)

pub loop-peer-smaller : goal.loop-peer-smaller
loop-peer-smaller g c = omega (arith, ap (λ (l : List Peer). length l) c.in-Some.ensures.items, length-append c.pop.new.self.items (c.in-Some.peer ∷ []))

pub loop-peer-preserved : goal.loop-peer-preserved
loop-peer-preserved g c =
    let start = c.args.self.now in
    let now = start.time in
    let old = c.loop-peer.self in
    let peer = c.in-Some.peer in
    let it = c.look.new.self in
    let rest = c.pop.new.self.items in
    let new = record old { waiting = c.pop.new.self; served = c.push_reserved.new.self } in
    let rooms = c.loop-peer.invariant.rooms in
    let parts = subst (AllByRecursion IsWhole) c.in-Some.ensures.items rooms.whole_waiting in
    record {
      rooms = record {
        waiting = omega (arith, rooms.waiting, c.in-Some.ensures.capacity);
        served = omega (arith, rooms.served, c.push_reserved.ensures.capacity);
        places = omega (arith, rooms.places, ap (λ (l : List Peer). length l) c.in-Some.ensures.items, length-append rest (peer ∷ []), ap (λ (l : List Peer). length l) c.push_reserved.ensures.items, length-append old.served.items (it ∷ []));
        whole_waiting = all_first IsWhole rest (peer ∷ []) parts;
        whole_served = subst (AllByRecursion IsWhole) (sym c.push_reserved.ensures.items) (all_both IsWhole old.served.items (it ∷ []) rooms.whole_served (c.look.ensures.whole, tt));
      };
      time = c.loop-peer.invariant.time;
      share = c.loop-peer.invariant.share;
      moves = λ rules. moves_both g.C.Connections.does c.args.connections.now c.loop-peer.connections c.look.new.connections
          (LeadsInTurn rules IsHearing (Unheard now) (Looked now) (Unheard now) (Looked now) start old) (Looks old.time peer it) (LeadsInTurn rules IsHearing (Unheard now) (Looked now) (Unheard now) (Looked now) start new)
          (λ first later so looks. leads_in_turn rules IsHearing (Unheard now) (Looked now) (Unheard now) (Looked now) (Unheard now) (Looked now) start old new first later so
          (leads_looking rules now old new peer it rest later (sym c.loop-peer.invariant.time) (sym (c.loop-peer.invariant.share ∙ c.requires.least)) c.in-Some.ensures.items refl c.push_reserved.ensures.items refl refl refl c.look.ensures.id looks, calm peer.id later looks.goes.own, looks.turns.hearing))
          (c.loop-peer.invariant.moves rules) c.look.ensures.looks;
    }

pub returns-clause-moves : goal.returns-clause-moves
returns-clause-moves g c = λ rules.
    let start = c.args.self.now in
    let now = start.time in
    let old = c.loop-peer.self in
    let new = record old { waiting = c.pop.new.self } in
    let was = nil_from_length old.waiting.items (omega (arith, c.in_default.ensures.cases.0, old.waiting.ok.0)) in
    let is = nil_from_length c.pop.new.self.items (omega (arith, c.in_default.ensures.cases.1, c.pop.new.self.ok.0)) in
    moves_as g.C.Connections.does c.args.connections.now c.loop-peer.connections (LeadsInTurn rules IsHearing (Unheard now) (Looked now) (Unheard now) (Looked now) start old) (LeadsInTurn rules IsHearing (Unheard now) (Looked now) NoPeer (Looked now) start new)
    (λ steps leads. (emptied_waiting rules (Unheard now) (Looked now) (Unheard now) (Looked now) start old new steps was is refl refl refl refl leads.0, leads.1, leads.2)) (c.loop-peer.invariant.moves rules)
