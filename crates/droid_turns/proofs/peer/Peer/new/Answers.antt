use Rattle.std.proofs.Common.{None, arith, false, refl}
use Rattle.droid_turns.specs.declared.peer.Peer.{Peer}
use Rattle.droid_turns.proofs.ReadSteps.{new_peer}
use Rattle.droid_turns.proofs.peer.Peer.new.Goals as goal

pub returns : goal.returns
returns c =
    let buffer = c.in_ok-vec.field-0 in
    let peer : Peer = record { id = c.args.id; feed = c.new.result; buffer = buffer; start = 0; end = 0; queue = c.new-2.result; leaving = None; active = c.args.now; drained = false; read = 0; frames = 0 } in
    new_peer peer c.args.now refl refl (omega (arith, c.in_ok-vec.ensures.len, buffer.ok.0)) c.new.ensures c.new-2.ensures refl refl refl
