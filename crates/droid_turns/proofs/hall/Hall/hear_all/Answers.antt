use Rattle.std.proofs.Common.{◌≡◌, ◌<◌, ◌≤◌, ◌++◌, ◌∷◌, [], ℕ, List, length, length-append, append_assoc, ap, refl, sym, subst, ◌∙◌, arith}
use Rattle.std.specs.List.{AllByRecursion}
use Rattle.std.proofs.lemmas.List.{append-nil, nil_from_length}
use Rattle.droid_turns.specs.Halls.{Heard, HearsEach, LeadsInTurn, Looked, NoPeer, had_in}
use Rattle.droid_turns.specs.Peers.{Hears, IsHearing, IsWhole}
use Rattle.droid_turns.specs.Steps.{handled}
use Rattle.droid_turns.specs.declared.peer.Peer.{Peer}
use Rattle.droid_turns.proofs.Moments.{all_both, all_first, all_last, goes_as, goes_both, goes_none}
use Rattle.droid_turns.proofs.HallSteps.{emptied_waiting, grants_both, grants_one, leads_hearing, leads_in_turn, leads_none}
use Rattle.droid_turns.proofs.OwnSteps.{calm}
use Rattle.droid_turns.proofs.hall.Hall.hear_all.Goals as goal

pub loop-peer-init : goal.loop-peer-init
loop-peer-init g c =
    let hall = c.args.self.now in
    let now = hall.time in
    let share = hall.share in
    let rooms = c.requires.rooms in
    record {
      rooms = record { waiting = rooms.waiting; served = rooms.served; places = rooms.places; whole_waiting = rooms.whole_waiting; whole_served = rooms.whole_served };
      time = refl;
      opened = refl;
      share = refl;
      others = ([], sym (append-nil hall.waiting.items));
      goes = λ rules. goes_none g.C.Connections.does g.H.Handler.handles g.H.Handler.settles c.args.connections.now c.args.handler.now (HearsEach rules (Heard share now) (Looked now) hall hall)
          ((leads_none rules (Looked now) (Heard share now) hall, tt, tt), λ id some. absurd (omega (arith, some)));
    }

pub hear-requires : goal.hear-requires
hear-requires g c =
    let parts = subst (AllByRecursion IsWhole) c.in-Some.ensures.items c.loop-peer.invariant.rooms.whole_waiting in
    record { whole = (all_last IsWhole c.pop.new.self.items (c.in-Some.peer ∷ []) parts).0; few = omega (arith, c.loop-peer.invariant.share, c.requires.few) }

pub push_reserved-requires : goal.push_reserved-requires
push_reserved-requires g c =
    let hall = c.loop-peer.self in
    let rooms = c.loop-peer.invariant.rooms in
    omega (arith, rooms.places, rooms.served, ap (λ (l : List Peer). length l) c.in-Some.ensures.items, length-append c.pop.new.self.items (c.in-Some.peer ∷ []), hall.served.ok.0)

pub loop-peer-smaller : goal.loop-peer-smaller
loop-peer-smaller g c = omega (arith, ap (λ (l : List Peer). length l) c.in-Some.ensures.items, length-append c.pop.new.self.items (c.in-Some.peer ∷ []))

pub loop-peer-preserved : goal.loop-peer-preserved
loop-peer-preserved g c =
    let start = c.args.self.now in
    let now = start.time in
    let share = start.share in
    let old = c.loop-peer.self in
    let peer = c.in-Some.peer in
    let it = c.hear.new.self in
    let rest = c.pop.new.self.items in
    let new = record old { waiting = c.pop.new.self; served = c.push_reserved.new.self; frames = c.saturating_add-self.result } in
    let rooms = c.loop-peer.invariant.rooms in
    let parts = subst (AllByRecursion IsWhole) c.in-Some.ensures.items rooms.whole_waiting in
    let others = c.loop-peer.invariant.others in
    let all : start.waiting.items ≡ rest ++ (peer ∷ others.0) = others.1 ∙ (ap (λ (l : List Peer). l ++ others.0) c.in-Some.ensures.items ∙ append_assoc rest (peer ∷ []) others.0) in
    record {
      rooms = record {
        waiting = omega (arith, rooms.waiting, c.in-Some.ensures.capacity);
        served = omega (arith, rooms.served, c.push_reserved.ensures.capacity);
        places = omega (arith, rooms.places, ap (λ (l : List Peer). length l) c.in-Some.ensures.items, length-append rest (peer ∷ []), ap (λ (l : List Peer). length l) c.push_reserved.ensures.items, length-append old.served.items (it ∷ []));
        whole_waiting = all_first IsWhole rest (peer ∷ []) parts;
        whole_served = subst (AllByRecursion IsWhole) (sym c.push_reserved.ensures.items) (all_both IsWhole old.served.items (it ∷ []) rooms.whole_served (c.hear.ensures.whole, tt));
      };
      time = c.loop-peer.invariant.time;
      opened = c.loop-peer.invariant.opened;
      share = c.loop-peer.invariant.share;
      others = (peer ∷ others.0, all);
      goes = λ rules. goes_both g.C.Connections.does g.H.Handler.handles g.H.Handler.settles c.args.connections.now c.loop-peer.connections c.hear.new.connections c.args.handler.now c.loop-peer.handler c.hear.new.handler
          (HearsEach rules (Heard share now) (Looked now) start old) (Hears old.time old.share peer it) (HearsEach rules (Heard share now) (Looked now) start new)
          (λ first later so hears.
          let these : Hears now share peer it later = subst (λ (n : ℕ). Hears n share peer it later) c.loop-peer.invariant.time (subst (λ (s : ℕ). Hears old.time s peer it later) c.loop-peer.invariant.share hears) in (
            leads_in_turn rules IsHearing (Looked now) (Heard share now) (Looked now) (Heard share now) (Looked now) (Heard share now) start old new first later so.0
                (leads_hearing rules share now old new peer it rest later (sym c.loop-peer.invariant.time) (sym c.loop-peer.invariant.share) c.in-Some.ensures.items refl c.push_reserved.ensures.items refl refl refl c.requires.some c.hear.ensures.id these, calm peer.id later these.goes.own, these.turns.hearing),
            grants_both (λ id. had_in id start.waiting.items) first later so.1 (subst (λ (l : List Peer). (id : ℕ) → 0 < length (handled id later) → 0 < had_in id l) (sym all) (grants_one now share rest others.0 peer it later these)),
          ))
          (c.loop-peer.invariant.goes rules) c.hear.ensures.hears;
    }

pub returns-clause-goes : goal.returns-clause-goes
returns-clause-goes g c = λ rules.
    let start = c.args.self.now in
    let now = start.time in
    let share = start.share in
    let old = c.loop-peer.self in
    let new = record old { waiting = c.pop.new.self } in
    let was = nil_from_length old.waiting.items (omega (arith, c.in_default.ensures.cases.0, old.waiting.ok.0)) in
    let is = nil_from_length c.pop.new.self.items (omega (arith, c.in_default.ensures.cases.1, c.pop.new.self.ok.0)) in
    goes_as g.C.Connections.does g.H.Handler.handles g.H.Handler.settles c.args.connections.now c.loop-peer.connections c.args.handler.now c.loop-peer.handler (HearsEach rules (Heard share now) (Looked now) start old) (HearsEach rules (Heard share now) NoPeer start new)
    (λ steps leads. ((emptied_waiting rules (Looked now) (Heard share now) (Looked now) (Heard share now) start old new steps was is refl refl refl refl leads.0.0, leads.0.1, leads.0.2), leads.1)) (c.loop-peer.invariant.goes rules)
