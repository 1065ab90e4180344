-- One more signature.
use Rattle.std.proofs.Common.{◌<◌, length, take, arith}
use Rattle.droid_signature.specs.Signatures.{ids_of}
use Rattle.droid_signature.proofs.OutcomeLists.{outcomes_more, signature_ids_long, signature_ids_more}
use Rattle.droid_signature.proofs.outcomes.Outcomes.of.Goals as goal

pub loop-place-preserved : goal.loop-place-preserved
loop-place-preserved c =
    let signatures = c.args.signatures.now in
    let i = c.loop-place.place in
    let below : i < length signatures = omega arith in
    record {
      ids = signature_ids_more signatures i c.index-signatures-place-in-loop-place.result c.id.result c.note.new.self below c.index-signatures-place-in-loop-place.is c.id.ensures
          (c.in_ok-note.ensures (ids_of (take i signatures)) c.loop-place.invariant.ids (signature_ids_long signatures i (omega arith)));
      each = outcomes_more signatures i c.index-signatures-place.result c.loop-place.outcomes.items c.push.new.self.items c.in_ok-outcome.outcome below c.index-signatures-place.is c.loop-place.invariant.each c.in_ok-outcome.ensures c.in_ok-push.ensures.items;
    }
