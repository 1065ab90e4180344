use Rattle.std.proofs.Common.{◌≡◌, [], List, ap, refl, ◌∙◌}
use Rattle.std.specs.declared.alloc.Global.{Global}
use Rattle.std.specs.declared.vec.Vec.{Vec}
use Rattle.droid_turns.specs.Halls.{LeadsInTurn, Looked, NoPeer, Unheard}
use Rattle.droid_turns.specs.Peers.{IsHearing}
use Rattle.droid_turns.specs.declared.peer.Peer.{Peer}
use Rattle.droid_turns.proofs.Moments.{moves_as}
use Rattle.droid_turns.proofs.HallSteps.{leads_as, leads_swapped, no_peer}
use Rattle.droid_turns.proofs.hall.Hall.look_all.Goals as goal

pub returns-clause-moves : goal.returns-clause-moves
returns-clause-moves g c = λ rules.
    let start = c.args.self.now in
    let now = start.time in
    let middle = c.look_each.new.self in
    let new = record middle { waiting = c.swap.new.x; served = c.swap.new.y } in
    moves_as g.C.Connections.does c.args.connections.now c.look_each.new.connections (LeadsInTurn rules IsHearing (Unheard now) (Looked now) NoPeer (Looked now) start middle) (LeadsInTurn rules IsHearing (Unheard now) NoPeer (Looked now) NoPeer start new)
    (λ steps leads. (
      leads_swapped rules (Unheard now) NoPeer (Looked now) start middle new steps c.look_each.ensures.all (ap (λ (v : Vec Peer Global). v.items) c.swap.ensures.y_after ∙ c.look_each.ensures.all) (ap (λ (v : Vec Peer Global). v.items) c.swap.ensures.x_after) refl refl refl
          (leads_as rules (Unheard now) (Looked now) NoPeer (Looked now) (Unheard now) NoPeer NoPeer (Looked now) start middle steps (λ before peer it. it) (λ before peer it. no_peer before peer it) (λ before peer it. it) (λ before peer it. it) leads.0),
      leads.1,
      leads.2,
    )) (c.look_each.ensures.moves rules)
