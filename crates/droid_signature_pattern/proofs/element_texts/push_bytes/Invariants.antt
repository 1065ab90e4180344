-- The first bytes.
use Rattle.std.proofs.Common.{◌≡◌, ◌++◌, take}
use Rattle.std.specs.List.{flat_map}
use Rattle.droid_signature_pattern.specs.Written.{pair}
use Rattle.droid_signature_pattern.proofs.element_texts.push_bytes.Given as goal

abbrev pub invariant-loop-byte : goal.invariant-loop-byte
invariant-loop-byte l = l.text.items ≡ l.initial.text.items ++ flat_map pair (take l.byte-index l.bytes)
