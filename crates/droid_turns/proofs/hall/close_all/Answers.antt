use Rattle.std.proofs.Common.{List, sym, ◌∙◌, subst, arith}
use Rattle.std.proofs.lemmas.List.{nil_from_length}
use Rattle.droid_turns.specs.Events.{Closed}
use Rattle.droid_turns.specs.Halls.{ClosesSome}
use Rattle.droid_turns.specs.declared.peer.Peer.{Peer}
use Rattle.droid_turns.proofs.Moments.{moves_as, moves_event, moves_none}
use Rattle.droid_turns.proofs.HallSteps.{closes_more, closes_none}
use Rattle.droid_turns.proofs.hall.close_all.Goals as goal

pub loop-peer-init : goal.loop-peer-init
loop-peer-init g c =
    let peers = c.args.peers.now.items in
    moves_none g.C.Connections.does c.args.connections.now (ClosesSome c.args.why peers peers) (closes_none c.args.why peers)

pub loop-peer-preserved : goal.loop-peer-preserved
loop-peer-preserved g c =
    let why = c.args.why in
    let start = c.args.peers.now.items in
    let old = c.loop-peer.peers.items in
    let rest = c.pop.new.self.items in
    let peer = c.in-Some.peer in
    moves_event g.C.Connections.does c.args.connections.now c.loop-peer.connections c.close.new.self (Closed peer.id why) (ClosesSome why start old) (ClosesSome why start rest)
    (λ first so. closes_more why start old rest peer first so c.in-Some.ensures.items) c.loop-peer.invariant c.close.ensures

pub returns-clause-none : goal.returns-clause-none
returns-clause-none g c = nil_from_length c.pop.new.self.items (omega (arith, c.in_default.ensures.cases.1, c.pop.new.self.ok.0))

pub returns-clause-moves : goal.returns-clause-moves
returns-clause-moves g c =
    let why = c.args.why in
    let start = c.args.peers.now.items in
    let old = c.loop-peer.peers in
    let was = nil_from_length old.items (omega (arith, c.in_default.ensures.cases.0, old.ok.0)) in
    let is = nil_from_length c.pop.new.self.items (omega (arith, c.in_default.ensures.cases.1, c.pop.new.self.ok.0)) in
    moves_as g.C.Connections.does c.args.connections.now c.loop-peer.connections (ClosesSome why start old.items) (ClosesSome why start c.pop.new.self.items)
    (λ steps so. subst (λ (l : List Peer). ClosesSome why start l steps) (was ∙ sym is) so) c.loop-peer.invariant
