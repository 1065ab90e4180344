-- The first texts, each with each of the others behind it: at most 16,384 bytes in all.
use Rattle.std.proofs.Common.{◌≡◌, ◌≤◌, take}
use Rattle.droid_signature_pattern.specs.Texts.{AreShort, joined, total}
use Rattle.droid_signature_pattern.proofs.pattern_texts.join.Given as goal

abbrev pub invariant-loop-first : goal.invariant-loop-first
invariant-loop-first l = (l.texts ≡ joined (take l.first-index l.firsts) l.seconds) × AreShort l.texts × (total l.texts ≤ 16384)
