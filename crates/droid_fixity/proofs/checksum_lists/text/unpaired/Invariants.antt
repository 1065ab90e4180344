-- What is left to read completes the copy.
use Rattle.std.proofs.Common.{◌≡◌, ◌++◌, false, drop}
use Rattle.droid_fixity.specs.Texts.{unpaired_from}
use Rattle.droid_fixity.proofs.checksum_lists.text.unpaired.Given as goal

abbrev pub invariant-loop-byte : goal.invariant-loop-byte
invariant-loop-byte l = l.copy.items ++ unpaired_from l.after (drop l.byte-index l.text) ≡ unpaired_from false l.text
