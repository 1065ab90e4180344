use Rattle.std.proofs.Common.{◌<◌, length, get_or, subst, arith, ◌≡◌, List, ap}
use Rattle.droid_turns.specs.declared.peer.Peer.{Peer}
use Rattle.droid_turns.proofs.HallSteps.{patient_more}
use Rattle.droid_turns.proofs.hall.Hall.patience.Goals as goal

pub loop-peer-preserved : goal.loop-peer-preserved
loop-peer-preserved c =
    let items = c.args.self.now.waiting.items in
    let index = c.loop-peer.peer-index in
    let peer = c.peer-item.result in
    let below : index < length items = omega (arith, c.loop-peer-test.true, ap (λ (l : List Peer). length l) c.deref-peer-items.ensures.value) in
    let is : peer ≡ get_or items index peer = subst (λ (l : List Peer). peer ≡ get_or l index peer) c.deref-peer-items.ensures.value c.peer-item.is in
    patient_more c.args.idle c.args.self.now.time c.loop-peer.limit c.min-limit.result c.patience.result items index peer below is c.loop-peer.invariant (omega (arith, c.min-limit.ensures)) (omega (arith, c.min-limit.ensures))
    c.patience.ensures.hungry c.patience.ensures.prompt
