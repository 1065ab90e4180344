use Rattle.std.proofs.Common.{◌≡◌, drop, map}
use Rattle.droid_xml.specs.Views.{setting}
use Rattle.droid_signature_file.specs.Elements.{value_of}
use Rattle.droid_signature_file.proofs.node.value_of.Given as goal

-- no attribute so far has the name
abbrev pub invariant-loop-attribute : goal.invariant-loop-attribute
invariant-loop-attribute l = value_of l.name (map setting (drop l.attribute-index l.attributes)) ≡ value_of l.name (map setting l.attributes)
