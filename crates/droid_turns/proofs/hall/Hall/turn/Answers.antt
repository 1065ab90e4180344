use Rattle.std.proofs.Common.{Bool, arith, refl, ◌∙◌, subst}
use Rattle.std.proofs.lemmas.Bool.{false≢true}
use Rattle.droid_turns.specs.Events.{Timed}
use Rattle.droid_turns.specs.Halls.{fresh}
use Rattle.droid_turns.proofs.Moments.{moves_one}
use Rattle.droid_turns.proofs.HallSteps.{failed_turn, heard_turn, leads_timed, looked_turn, settled_turn}
use Rattle.droid_turns.proofs.hall.Hall.turn.Goals as goal

-- it failed to settle
pub returns-then-not-settled-clause-rooms : goal.returns-then-not-settled-clause-rooms
returns-then-not-settled-clause-rooms g c = λ is. absurd (false≢true is)

pub returns-then-not-settled-clause-first : goal.returns-then-not-settled-clause-first
returns-then-not-settled-clause-first g c = λ is. absurd (false≢true is)

pub returns-then-not-settled-clause-goes : goal.returns-then-not-settled-clause-goes
returns-then-not-settled-clause-goes g c =
    let old = c.args.self.now in
    let one = record old { time = c.now-self.result; share = 1 } in
    let two = c.admit.new.self in
    let looked = c.look_all.new.self in
    let three = record looked { share = c.fair_share-self.result } in
    let four = c.hear_all.new.self in
    let five = record four { served = c.close_all.new.peers } in
    let rules = c.args.rules in
    failed_turn g.C.Connections.does g.H.Handler.handles g.H.Handler.settles rules one.time old four five c.args.connections.now c.hear_all.new.connections c.close_all.new.connections c.args.handler.now c.hear_all.new.handler c.settle-settled.new.self
    (c.hear_all.ensures.now ∙ (c.look_all.ensures.now ∙ c.admit.ensures.now)) c.close_all.ensures.none refl refl
    (heard_turn g.C.Connections.does g.H.Handler.handles g.H.Handler.settles rules one.time old looked three four c.args.connections.now c.look_all.new.connections c.hear_all.new.connections c.args.handler.now c.hear_all.new.handler
    (c.look_all.ensures.now ∙ c.admit.ensures.now)
    (record { fair = c.fair_share-self.ensures.fair; more = omega (arith, c.look_all.ensures.share, c.admit.ensures.share, c.fair_share-self.ensures.some); waits = refl; serves = refl; time = refl; opened = refl; whole = c.look_all.ensures.rooms.whole_waiting })
    c.hear_all.ensures.share c.hear_all.ensures.opened
    (looked_turn g.C.Connections.does rules old one two looked c.args.connections.now c.now-self.new.self c.admit.new.connections c.look_all.new.connections
    (moves_one g.C.Connections.does c.args.connections.now c.now-self.new.self (Timed c.now-self.result) _ c.now-self.ensures refl) (leads_timed rules old.time (fresh old) one refl refl refl refl refl)
    c.admit.ensures.moves (c.look_all.ensures.moves rules) c.admit.ensures.now)
    (c.hear_all.ensures.goes rules))
    (subst (λ (b : Bool). g.H.Handler.settles c.hear_all.new.handler b c.settle-settled.new.self) c.if-not-settled.true c.settle-settled.ensures)
    c.close_all.ensures.moves

-- it settled
pub returns-clause-goes : goal.returns-clause-goes
returns-clause-goes g c =
    let old = c.args.self.now in
    let one = record old { time = c.now-self.result; share = 1 } in
    let two = c.admit.new.self in
    let looked = c.look_all.new.self in
    let three = record looked { share = c.fair_share-self.result } in
    let four = c.hear_all.new.self in
    let five = c.write_out_all.new.self in
    let rules = c.args.rules in
    settled_turn g.C.Connections.does g.H.Handler.handles g.H.Handler.settles rules one.time old four five c.args.connections.now c.hear_all.new.connections c.write_out_all.new.connections c.args.handler.now c.hear_all.new.handler c.settle-settled.new.self
    (c.hear_all.ensures.now ∙ (c.look_all.ensures.now ∙ c.admit.ensures.now)) c.write_out_all.ensures.now c.write_out_all.ensures.share c.write_out_all.ensures.opened
    (heard_turn g.C.Connections.does g.H.Handler.handles g.H.Handler.settles rules one.time old looked three four c.args.connections.now c.look_all.new.connections c.hear_all.new.connections c.args.handler.now c.hear_all.new.handler
    (c.look_all.ensures.now ∙ c.admit.ensures.now)
    (record { fair = c.fair_share-self.ensures.fair; more = omega (arith, c.look_all.ensures.share, c.admit.ensures.share, c.fair_share-self.ensures.some); waits = refl; serves = refl; time = refl; opened = refl; whole = c.look_all.ensures.rooms.whole_waiting })
    c.hear_all.ensures.share c.hear_all.ensures.opened
    (looked_turn g.C.Connections.does rules old one two looked c.args.connections.now c.now-self.new.self c.admit.new.connections c.look_all.new.connections
    (moves_one g.C.Connections.does c.args.connections.now c.now-self.new.self (Timed c.now-self.result) _ c.now-self.ensures refl) (leads_timed rules old.time (fresh old) one refl refl refl refl refl)
    c.admit.ensures.moves (c.look_all.ensures.moves rules) c.admit.ensures.now)
    (c.hear_all.ensures.goes rules))
    (subst (λ (b : Bool). g.H.Handler.settles c.hear_all.new.handler b c.settle-settled.new.self) c.if-not-settled.false c.settle-settled.ensures)
    (c.write_out_all.ensures.moves rules refl)
