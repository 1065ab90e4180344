use Rattle.std.proofs.Common.{◌∙◌, arith, subst, sym}
use Rattle.droid_turns.specs.Peers.{Sends}
use Rattle.droid_turns.proofs.Moments.{moves_as}
use Rattle.droid_turns.proofs.WriteSteps.{departs_idle, departs_unwritten, writes_leaving}
use Rattle.droid_turns.proofs.peer.Peer.write_out.Goals as goal

pub returns-then-not-send-clause-writes : goal.returns-then-not-send-clause-writes
returns-then-not-send-clause-writes g c =
    moves_as g.C.Connections.does c.args.connections.now c.send.new.connections _ _
    (λ steps sent. (departs_unwritten c.args.idle c.args.now c.args.self.now c.send.new.self steps sent.0 c.send.ensures.id (subst (Sends c.send.new.self steps) c.if-not-send.true sent.2), sent.1)) c.send.ensures.moves

pub returns-then-is_over-clause-writes : goal.returns-then-is_over-clause-writes
returns-then-is_over-clause-writes g c =
    moves_as g.C.Connections.does c.args.connections.now c.send.new.connections _ _
    (λ steps sent. (writes_leaving c.args.idle c.args.now c.args.self.now c.send.new.self steps sent.0 c.send.ensures.whole.counts c.send.ensures.frames sent.1 (sym c.is_over.ensures ∙ c.if-is_over.true), sent.1)) c.send.ensures.moves

pub returns-then-saturating_sub-idle-clause-writes : goal.returns-then-saturating_sub-idle-clause-writes
returns-then-saturating_sub-idle-clause-writes g c =
    moves_as g.C.Connections.does c.args.connections.now c.send.new.connections _ _
    (λ steps sent. (departs_idle c.args.idle c.args.now c.args.self.now c.send.new.self steps sent.0 (omega arith), sent.1)) c.send.ensures.moves

pub returns-clause-writes : goal.returns-clause-writes
returns-clause-writes g c =
    moves_as g.C.Connections.does c.args.connections.now c.send.new.connections _ _
    (λ steps sent. (record { goes = sent.0; sends = subst (Sends c.send.new.self steps) c.if-not-send.false sent.2; stays = sym c.is_over.ensures ∙ c.if-is_over.false; active = omega arith; counts = c.send.ensures.whole.counts }, sent.1)) c.send.ensures.moves
