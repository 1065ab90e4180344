use Rattle.std.proofs.Common.{◌≡◌, ◌≤◌, drop, filter, length, map}
use Rattle.std.specs.Prelude.{◌-◌}
use Rattle.droid_xml.specs.Views.{part}
use Rattle.droid_signature_file.specs.Elements.{is_named, nodes_from}
use Rattle.droid_signature_file.specs.Outcomes.{after}
use Rattle.droid_signature_file.specs.Signatures.{every}
use Rattle.droid_signature_file.proofs.from_node.add_each.Given as goal

-- what is read so far stands in front of what the rest says
abbrev pub invariant-elements : goal.invariant-elements
invariant-elements g l =
    (after l.all.items (every g.T.FromNode.says (filter (is_named l.name) (nodes_from 0 (map part (drop l.at l.pieces))))) ≡ after l.fn.all.items (every g.T.FromNode.says (filter (is_named l.name) (nodes_from 0 (map part l.pieces))))) × (l.at ≤ length l.pieces)

abbrev pub decreases-elements : goal.decreases-elements
decreases-elements g l = length l.pieces - l.at
