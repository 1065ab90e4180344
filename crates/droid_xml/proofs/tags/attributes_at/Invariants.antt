use Rattle.std.proofs.Common.{◌≡◌, ◌-◌, map}
use Rattle.droid_xml.proofs.AttributeLoops.{with_front}
use Rattle.droid_xml.specs.Tags.{attributes_at}
use Rattle.droid_xml.specs.Views.{setting}
use Rattle.droid_xml.proofs.tags.attributes_at.Given as goal

-- the attributes so far, and what comes of the rest
abbrev pub invariant-loop : goal.invariant-loop
invariant-loop l = with_front (map setting l.attributes.items) (attributes_at (64 - l.counter) l.rest) ≡ attributes_at 64 l.text
