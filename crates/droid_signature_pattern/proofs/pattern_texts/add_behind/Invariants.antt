-- The first of the others behind the text.
use Rattle.std.proofs.Common.{◌≡◌, ◌++◌, take}
use Rattle.droid_signature_pattern.specs.Texts.{AreShort, each_behind}
use Rattle.droid_signature_pattern.proofs.pattern_texts.add_behind.Given as goal

abbrev pub invariant-loop-second : goal.invariant-loop-second
invariant-loop-second l = (l.texts ≡ l.initial.texts ++ each_behind l.first (take l.second-index l.seconds)) × (AreShort l.initial.texts → AreShort l.texts)
