-- All are read.
use Rattle.std.proofs.Common.{◌∙◌}
use Rattle.droid_signature_file.specs.Elements.{inside_named}
use Rattle.droid_signature_file.specs.Outcomes.{node_of}
use Rattle.droid_signature_file.specs.Signatures.{every}
use Rattle.droid_signature_file.proofs.Every.{at_start}
use Rattle.droid_signature_file.proofs.from_node.read_each.Goals as goal

pub returns-in-Ok : goal.returns-in-Ok
returns-in-Ok g c = at_start (every g.T.FromNode.says (inside_named c.args.name.now (node_of c.args.node.now))) ∙ rw c.new-all.ensures.items at c.in-Ok.ensures
