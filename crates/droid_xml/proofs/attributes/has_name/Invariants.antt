use Rattle.std.proofs.Common.{◌≡◌, drop, map}
use Rattle.std.specs.List.{list_any}
use Rattle.std.specs.Str.{bytes_eq}
use Rattle.droid_xml.specs.Views.{setting}
use Rattle.droid_xml.proofs.attributes.has_name.Given as goal

-- none so far has the name
abbrev pub invariant-loop-attribute : goal.invariant-loop-attribute
invariant-loop-attribute l = list_any (λ other. bytes_eq l.name other.name) (map setting (drop l.attribute-index l.attributes)) ≡ list_any (λ other. bytes_eq l.name other.name) (map setting l.attributes)
