-- The bytes so far are those of the parts that were yielded.
use Rattle.std.proofs.Common.{◌≡◌, ◌++◌}
use Rattle.droid_fixity.specs.Spellings.{decoded_parts}
use Rattle.droid_fixity.proofs.Decoding.{is_none, texts}
use Rattle.droid_fixity.proofs.checksum_lists.path_text.add_decoded.Given as goal

abbrev pub invariant-loop-part : goal.invariant-loop-part
invariant-loop-part l = record {
  flag : is_none l.yielded ≡ l.is_first;
  so_far : l.path.items ≡ l.fn.path.items ++ decoded_parts (texts l.yielded);
}
