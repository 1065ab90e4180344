-- No element with an end tag, one whose end tag is missing, and one with it.
use Rattle.std.proofs.Common.{sym}
use Rattle.droid_xml.specs.Views.{part}
use Rattle.droid_signature_file.proofs.Nodes.{len_none}
use Rattle.droid_signature_file.proofs.node.len_of.Goals as goal

pub returns-then-not-opens-clause-value : goal.returns-then-not-opens-clause-value
returns-then-not-opens-clause-value c = len_none (part c.args.piece.now) c.args.behind.now (sym c.if-not-opens.ensures)
