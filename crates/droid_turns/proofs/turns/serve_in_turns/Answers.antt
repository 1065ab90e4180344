use Rattle.std.proofs.Common.{◌≡◌, ◌+◌, ◌++◌, ◌∷◌, [], ℕ, Bool, List, refl, sym, ap, subst, arith, inl, inr}
use Rattle.droid_turns.specs.Events.{Unwaited, Waited}
use Rattle.droid_turns.specs.Halls.{GivesUp, Stops, TakesTurn, Turned}
use Rattle.droid_turns.specs.Turns.{IsShare, ServesAll}
use Rattle.droid_turns.specs.Steps.{Goes, Happens, Step}
use Rattle.droid_turns.specs.declared.service_end.Served.TheVariants as ways
use Rattle.droid_turns.proofs.Moments.{goes_as, goes_both, goes_moving, goes_none, moves_both, moves_one}
use Rattle.droid_turns.proofs.HallSteps.{FailsAndStops, IsBetween, WaitsAndFails, WaitsAndGoes, ended_all, ended_at_once, ended_stopped, failed, turned, unsettled}
use Rattle.droid_turns.proofs.Settling.{ordered_none}
use Rattle.droid_turns.proofs.Shares.{share_first}
use Rattle.droid_turns.proofs.turns.serve_in_turns.Goals as goal

-- no memory for the list of connections
pub returns-in_default : goal.returns-in_default
returns-in_default g c = goes_none g.C.Connections.does g.H.Handler.handles g.H.Handler.settles c.args.connections.now c.args.handler.now (ServesAll c.args.rules ways.Memory) (ended_at_once c.args.rules)

pub loop-init : goal.loop-init
loop-init g c = record {
  rooms = c.in-Ok.ensures.rooms;
  first = c.in-Ok.ensures.first;
  goes = goes_none g.C.Connections.does g.H.Handler.handles g.H.Handler.settles c.args.connections.now c.args.handler.now (IsBetween c.args.rules c.in-Ok.hall 0) (record { rest = c.in-Ok.ensures.empty c.args.rules; begun = inl refl; is_share = subst (λ (s : ℕ). IsShare s [] []) (sym c.in-Ok.ensures.share) share_first; many = omega arith; ordered = ordered_none; once = inl refl });
}

-- all came and left
pub returns-then-is_over : goal.returns-then-is_over
returns-then-is_over g c =
    let rules = c.args.rules in
    let hall = c.loop.hall in
    goes_as g.C.Connections.does g.H.Handler.handles g.H.Handler.settles c.args.connections.now c.loop.connections c.args.handler.now c.loop.handler (IsBetween rules hall c.loop.counter) (ServesAll rules ways.All)
    (λ steps so. ended_all rules hall steps so.rest so.ordered (c.is_over.ensures.empty c.if-is_over.true) (c.is_over.ensures.all c.if-is_over.true)) c.loop.invariant.goes

pub loop-preserved : goal.loop-preserved
loop-preserved g c =
    let rules = c.args.rules in
    let old = c.loop.hall in
    let new = c.turn.new.self in
    let limit = c.patience-limit.result in
    let settled = c.if-not-turn.false in
    record {
      rooms = c.turn.ensures.rooms settled;
      first = c.turn.ensures.first settled;
      goes = goes_both g.C.Connections.does g.H.Handler.handles g.H.Handler.settles c.args.connections.now c.loop.connections c.turn.new.connections c.args.handler.now c.loop.handler c.turn.new.handler
          (IsBetween rules old c.loop.counter) (WaitsAndGoes rules old new limit) (IsBetween rules new (c.loop.counter + 1))
          (λ first later so turn. turned rules old new limit c.loop.counter first later so c.patience-limit.ensures turn) c.loop.invariant.goes
          (goes_both g.C.Connections.does g.H.Handler.handles g.H.Handler.settles c.loop.connections c.wait.new.self c.turn.new.connections c.loop.handler c.loop.handler c.turn.new.handler
          (λ (steps : List Step). steps ≡ Happens (Waited limit) ∷ []) (TakesTurn rules old new) (WaitsAndGoes rules old new limit) (λ first later is leads. record { more = later; parts = ap (λ (l : List Step). l ++ later) is; turn = leads })
          (goes_moving g.C.Connections.does g.H.Handler.handles g.H.Handler.settles c.loop.connections c.wait.new.self c.loop.handler (λ (steps : List Step). steps ≡ Happens (Waited limit) ∷ []) (moves_one g.C.Connections.does c.loop.connections c.wait.new.self (Waited limit) _ c.in-Ok-wait.ensures.waited refl))
          (subst (λ (b : Bool). Goes g.C.Connections.does g.H.Handler.handles g.H.Handler.settles c.wait.new.self c.loop.handler c.turn.new.connections c.turn.new.handler (Turned b rules old new)) settled c.turn.ensures.goes));
    }

-- the handler failed to settle
pub returns-then-not-turn : goal.returns-then-not-turn
returns-then-not-turn g c =
    let rules = c.args.rules in
    let old = c.loop.hall in
    let new = c.turn.new.self in
    let limit = c.patience-limit.result in
    goes_both g.C.Connections.does g.H.Handler.handles g.H.Handler.settles c.args.connections.now c.loop.connections c.turn.new.connections c.args.handler.now c.loop.handler c.turn.new.handler
    (IsBetween rules old c.loop.counter) (WaitsAndFails rules old new limit) (ServesAll rules ways.Unsettled)
    (λ first later so fails. unsettled rules old new limit c.loop.counter first later so c.patience-limit.ensures fails) c.loop.invariant.goes
    (goes_both g.C.Connections.does g.H.Handler.handles g.H.Handler.settles c.loop.connections c.wait.new.self c.turn.new.connections c.loop.handler c.loop.handler c.turn.new.handler
    (λ (steps : List Step). steps ≡ Happens (Waited limit) ∷ []) (GivesUp rules old new) (WaitsAndFails rules old new limit) (λ first later is fails. record { more = later; parts = ap (λ (l : List Step). l ++ later) is; turn = fails })
    (goes_moving g.C.Connections.does g.H.Handler.handles g.H.Handler.settles c.loop.connections c.wait.new.self c.loop.handler (λ (steps : List Step). steps ≡ Happens (Waited limit) ∷ []) (moves_one g.C.Connections.does c.loop.connections c.wait.new.self (Waited limit) _ c.in-Ok-wait.ensures.waited refl))
    (subst (λ (b : Bool). Goes g.C.Connections.does g.H.Handler.handles g.H.Handler.settles c.wait.new.self c.loop.handler c.turn.new.connections c.turn.new.handler (Turned b rules old new)) c.if-not-turn.true c.turn.ensures.goes))

-- waiting failed
pub returns-in-Err : goal.returns-in-Err
returns-in-Err g c =
    let rules = c.args.rules in
    let old = c.loop.hall in
    goes_both g.C.Connections.does g.H.Handler.handles g.H.Handler.settles c.args.connections.now c.loop.connections c.stop.new.connections c.args.handler.now c.loop.handler c.loop.handler
    (IsBetween rules old c.loop.counter) (FailsAndStops rules old c.stop.new.self) (ServesAll rules ways.Stopped)
    (λ first later so stops. failed rules old c.stop.new.self first later so.rest so.ordered stops) c.loop.invariant.goes
    (goes_moving g.C.Connections.does g.H.Handler.handles g.H.Handler.settles c.loop.connections c.stop.new.connections c.loop.handler (FailsAndStops rules old c.stop.new.self)
    (moves_both g.C.Connections.does c.loop.connections c.wait.new.self c.stop.new.connections (λ (steps : List Step). steps ≡ Happens Unwaited ∷ []) (Stops rules old c.stop.new.self) (FailsAndStops rules old c.stop.new.self)
    (λ first later is stops. record { more = later; parts = ap (λ (l : List Step). l ++ later) is; stops = stops })
    (moves_one g.C.Connections.does c.loop.connections c.wait.new.self Unwaited _ c.in-Err.ensures.unwaited refl) (c.stop.ensures.moves rules)))

-- there were 2^64 - 1 turns
pub returns : goal.returns
returns g c =
    let rules = c.args.rules in
    let old = c.loop.hall in
    goes_both g.C.Connections.does g.H.Handler.handles g.H.Handler.settles c.args.connections.now c.loop.connections c.stop-2.new.connections c.args.handler.now c.loop.handler c.loop.handler
    (IsBetween rules old c.loop.counter) (Stops rules old c.stop-2.new.self) (ServesAll rules ways.Stopped)
    (λ first later so stops. ended_stopped rules old c.stop-2.new.self first later (inr (omega (arith, so.many, c.loop-test.false))) so.rest so.ordered stops) c.loop.invariant.goes
    (goes_moving g.C.Connections.does g.H.Handler.handles g.H.Handler.settles c.loop.connections c.stop-2.new.connections c.loop.handler (Stops rules old c.stop-2.new.self) (c.stop-2.ensures.moves rules))
