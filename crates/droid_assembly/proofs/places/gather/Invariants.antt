-- the pieces before this index were taken out, and the sum is that of their bytes
use Rattle.std.proofs.Common.{◌≡◌, ℕ, ◌+◌, ◌-◌, ◌^◌, ◌<◌, ◌≤◌, List, None, length, min}
use Rattle.std.specs.List.{concat}
use Rattle.droid_assembly.specs.Pieces.{Piece}
use Rattle.droid_assembly.specs.State.{slot}
use Rattle.droid_assembly.specs.Kept.{ArePlaced, pieces_from}
use Rattle.droid_assembly.proofs.places.gather.Given as goal

abbrev pub invariant-loop-index : goal.invariant-loop-index
invariant-loop-index l = record {
  places : length l.waiting ≡ 16;
  next : l.from + length l.several ≡ l.index;
  total : l.total ≡ min (length (concat l.several)) (2 ^ 64 - 1);
  placed : (pieces : List Piece) (total count : ℕ) → ArePlaced l.fn.waiting l.from pieces total count → ArePlaced l.waiting l.index pieces total count;
  passed : (pieces : List Piece) (total count : ℕ) → ArePlaced l.fn.waiting l.from pieces total count → l.several ≡ pieces_from l.from (length l.several) pieces;
  emptied : (k : ℕ) → l.from ≤ k → k < l.index → slot l.waiting k ≡ None;
}
