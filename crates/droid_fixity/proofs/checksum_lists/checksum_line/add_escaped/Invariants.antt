-- The bytes so far are escaped.
use Rattle.std.proofs.Common.{◌≡◌, ◌++◌, take}
use Rattle.droid_fixity.specs.Spellings.{escaped}
use Rattle.droid_fixity.specs.Writing.{KeepsFront}
use Rattle.droid_fixity.proofs.checksum_lists.checksum_line.add_escaped.Given as goal

abbrev pub invariant-loop-byte : goal.invariant-loop-byte
invariant-loop-byte l = record {
  so_far : l.text.items ≡ l.fn.text.items ++ escaped (take l.byte-index l.path);
  front : KeepsFront l.fn.text.items l.text.items;
}
