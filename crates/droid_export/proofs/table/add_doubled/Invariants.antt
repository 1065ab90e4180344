use Rattle.std.proofs.Common.{◌≡◌, ◌++◌, take}
use Rattle.std.specs.List.{flat_map}
use Rattle.droid_export.specs.Csv.{doubled}
use Rattle.droid_export.proofs.table.add_doubled.Given as goal

-- the first bytes were written
abbrev pub invariant-loop-byte : goal.invariant-loop-byte
invariant-loop-byte l = l.text.items ≡ l.fn.text.items ++ flat_map doubled (take l.byte-index l.field)
