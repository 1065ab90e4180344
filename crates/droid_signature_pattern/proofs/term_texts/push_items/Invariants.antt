-- The texts of the first items.
use Rattle.std.proofs.Common.{◌≡◌, ◌++◌, map, take}
use Rattle.std.specs.List.{flat_map}
use Rattle.droid_signature_pattern.specs.TermValues.{atom_of}
use Rattle.droid_signature_pattern.specs.Written.{one_text}
use Rattle.droid_signature_pattern.proofs.term_texts.push_items.Given as goal

abbrev pub invariant-loop-item : goal.invariant-loop-item
invariant-loop-item l = l.text.items ≡ l.initial.text.items ++ flat_map one_text (take l.item-index (map atom_of l.items))
