-- The items so far are those of the lines that were yielded.
use Rattle.std.proofs.Common.{◌≡◌, ◌+◌, [], Ok, length, map}
use Rattle.droid_fixity.specs.Lists.{items_from}
use Rattle.droid_fixity.proofs.checksum_lists.list.items_in.Given as goal

abbrev pub invariant-loop-line : goal.invariant-loop-line
invariant-loop-line l = record {
  so_far : items_from l.fn.form 1 [] (map (λ line. line.now) l.yielded) ≡ Ok l.items.items;
  number : l.number ≡ 1 + length l.yielded;
}
