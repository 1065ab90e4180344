-- the places so far are empty, and all are reserved
use Rattle.std.proofs.Common.{◌≡◌, None, replicate, vec_len, vec_capacity}
use Rattle.droid_assembly.proofs.places.empty_places.Given as goal

abbrev pub invariant-loop : goal.invariant-loop
invariant-loop l = record {
  empty : l.places.items ≡ replicate l.counter None;
  filled : vec_len l.places ≡ l.counter;
  reserved : vec_capacity l.places ≡ 16;
}
