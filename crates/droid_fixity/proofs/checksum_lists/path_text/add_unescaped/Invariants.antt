-- What is left to read completes what all spells.
use Rattle.std.proofs.Common.{◌≡◌, false, drop}
use Rattle.droid_fixity.specs.Spellings.{unescaped_from}
use Rattle.droid_fixity.proofs.Unescaping.{in_front}
use Rattle.droid_fixity.proofs.checksum_lists.path_text.add_unescaped.Given as goal

abbrev pub invariant-loop-byte : goal.invariant-loop-byte
invariant-loop-byte l = in_front l.path.items (unescaped_from l.opened (drop l.byte-index l.text)) ≡ in_front l.fn.path.items (unescaped_from false l.text)
