-- The runs so far stand in the pool.
use Rattle.std.proofs.Common.{◌≡◌, ◌++◌, length, map, take}
use Rattle.std.specs.List.{flat_map}
use Rattle.droid_pattern.specs.Cells.{number_bytes, run_bytes}
use Rattle.droid_pattern.proofs.pool.put_choice.Given as goal

abbrev pub invariant-loop-run : goal.invariant-loop-run
invariant-loop-run l =
    l.pool.items ≡ l.fn.pool.items ++ number_bytes (length l.alternatives) ++ flat_map run_bytes (map (λ v. v.items) (take l.run-index l.alternatives))
