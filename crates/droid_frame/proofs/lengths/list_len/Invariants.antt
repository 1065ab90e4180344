-- The first texts are short enough, and the sum is the length of their spelling.
use Rattle.std.proofs.Common.{◌≡◌, ◌+◌, ◌*◌, ◌≤◌, take, length}
use Rattle.std.specs.List.{AllByRecursion}
use Rattle.droid_frame.specs.TextLists.{texts_bytes}
use Rattle.droid_frame.proofs.lengths.list_len.Given as goal

abbrev pub invariant-loop-text : goal.invariant-loop-text
invariant-loop-text l = record {
  counted : l.len ≡ 1 + length (texts_bytes (take l.text-index l.texts));
  small : l.len ≤ 1 + 256 * l.text-index;
  short : AllByRecursion (λ text. length text ≤ 255) (take l.text-index l.texts);
}
