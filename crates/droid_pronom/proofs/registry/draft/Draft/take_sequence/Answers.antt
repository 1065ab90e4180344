use Rattle.droid_pronom.specs.RegistryRecords.{sequence_head, sequence_added}
use Rattle.droid_pronom.proofs.RegistrySteps.{reports_added}
use Rattle.droid_pronom.specs.RegistryCalls.{draft_of}
use Rattle.droid_pronom.proofs.registry.draft.Draft.take_sequence.Goals as goal

pub returns : goal.returns
returns c =
    reports_added (sequence_head (draft_of c.args.self.now) c.args.puid.now c.args.anchor.now c.args.min.now c.args.max.now) c.in_ok-offsets.offsets c.args.pattern.now
    c.in_ok-pattern.pattern (sequence_added (draft_of c.args.self.now)) c.add_sequence.result (draft_of c.add_sequence.new.self)
    c.in_ok-offsets.ensures c.in_ok-pattern.ensures c.add_sequence.ensures
