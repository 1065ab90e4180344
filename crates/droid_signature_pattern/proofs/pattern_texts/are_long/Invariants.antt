-- What is left for the texts behind the first.
use Rattle.std.proofs.Common.{◌≡◌, ◌+◌, take}
use Rattle.droid_signature_pattern.specs.Texts.{total}
use Rattle.droid_signature_pattern.proofs.pattern_texts.are_long.Given as goal

abbrev pub invariant-loop-text : goal.invariant-loop-text
invariant-loop-text l = l.left + total (take l.text-index l.texts) ≡ 16384
