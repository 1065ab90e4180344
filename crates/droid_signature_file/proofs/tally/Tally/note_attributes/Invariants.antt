use Rattle.std.proofs.Common.{◌≡◌, map, take}
use Rattle.std.specs.List.{fold}
use Rattle.droid_signature_file.specs.Unknown.{name_of, noted_attribute}
use Rattle.droid_signature_file.proofs.tally.Tally.note_attributes.Given as goal

-- the attributes so far are counted
abbrev pub invariant-loop-attribute : goal.invariant-loop-attribute
invariant-loop-attribute l = l.self ≡ fold (noted_attribute l.kind) l.fn.self (map name_of (take l.attribute-index l.attributes))
