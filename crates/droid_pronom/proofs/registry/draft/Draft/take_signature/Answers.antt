use Rattle.droid_pronom.specs.RegistryRecords.{signature_head, signature_added}
use Rattle.droid_pronom.proofs.RegistrySteps.{reports_added}
use Rattle.droid_pronom.specs.RegistryCalls.{draft_of}
use Rattle.droid_pronom.proofs.registry.draft.Draft.take_signature.Goals as goal

pub returns : goal.returns
returns c =
    reports_added (signature_head (draft_of c.args.self.now) c.args.puid.now c.args.anchor.now c.args.min.now c.args.max.now) (c.in_ok-place.place, c.in_ok-place.offsets) c.args.pattern.now
    c.in_ok-pattern.pattern (signature_added (draft_of c.args.self.now)) c.add_signature.result (draft_of c.add_signature.new.self)
    c.in_ok-place.ensures.gives c.in_ok-pattern.ensures c.add_signature.ensures
