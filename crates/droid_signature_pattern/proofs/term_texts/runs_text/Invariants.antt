-- The first alternatives, each behind its mark.
use Rattle.std.proofs.Common.{◌≡◌, map, take}
use Rattle.std.specs.List.{flat_map}
use Rattle.droid_signature_pattern.specs.Items.{items_of}
use Rattle.droid_signature_pattern.specs.Written.{marked, next_mark, one_text}
use Rattle.droid_signature_pattern.proofs.term_texts.runs_text.Given as goal

abbrev pub invariant-loop-items : goal.invariant-loop-items
invariant-loop-items l = (l.text.items ≡ marked (flat_map one_text) 40 (take l.items-index (map items_of l.alternatives))) × (l.mark ≡ next_mark 40 l.items-index)
