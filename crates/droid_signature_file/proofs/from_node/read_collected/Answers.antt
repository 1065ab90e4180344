-- All are read.
use Rattle.std.proofs.Common.{◌∙◌}
use Rattle.droid_signature_file.specs.Outcomes.{node_of}
use Rattle.droid_signature_file.specs.Signatures.{collected, every}
use Rattle.droid_signature_file.proofs.Every.{at_start}
use Rattle.droid_signature_file.proofs.from_node.read_collected.Goals as goal

pub returns-in-Ok : goal.returns-in-Ok
returns-in-Ok g c = at_start (every g.T.FromNode.says (collected c.args.collection.now c.args.name.now (node_of c.args.root.now))) ∙ rw c.new-all.ensures.items at c.in-Ok.ensures
