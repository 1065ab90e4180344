use Rattle.std.proofs.Common.{◌≡◌, false, true, sym, ◌∙◌}
use Rattle.droid_turns.specs.Peers.{Hears, HearsSome, has_bytes}
use Rattle.droid_turns.proofs.Moments.{goes_as, goes_none}
use Rattle.droid_turns.proofs.ReadSteps.{hears_pass, hears_some}
use Rattle.droid_turns.proofs.peer.Peer.hear.Goals as goal

-- it has no bytes
pub returns-then-not-has_bytes-clause-hears : goal.returns-then-not-has_bytes-clause-hears
returns-then-not-has_bytes-clause-hears g c =
    let old = c.args.self.now in
    goes_none g.C.Connections.does g.H.Handler.handles g.H.Handler.settles c.args.connections.now c.args.handler.now (Hears c.args.now c.args.share old old)
    (hears_pass c.args.now c.args.share old c.requires.whole (sym c.has_bytes.ensures ∙ c.if-not-has_bytes.true))

-- its frames were handled
pub returns-clause-hears : goal.returns-clause-hears
returns-clause-hears g c =
    let old = c.args.self.now in
    let awake = record old { drained = false } in
    let new = c.answer_some.new.self in
    goes_as g.C.Connections.does g.H.Handler.handles g.H.Handler.settles c.args.connections.now c.answer_some.new.connections c.args.handler.now c.answer_some.new.handler (HearsSome c.args.now c.args.share awake new) (Hears c.args.now c.args.share old new)
    (λ steps some. hears_some c.args.now c.args.share old new steps (sym c.has_bytes.ensures ∙ c.if-not-has_bytes.false) some) c.answer_some.ensures.hears
