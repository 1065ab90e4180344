-- The first bytes.
use Rattle.std.proofs.Common.{◌≡◌, ◌++◌, take}
use Rattle.std.specs.List.{flat_map}
use Rattle.droid_signature.specs.Csv.{doubled}
use Rattle.droid_signature.proofs.row_text.push_doubled.Given as goal

abbrev pub invariant-loop-c : goal.invariant-loop-c
invariant-loop-c l = l.text.items ≡ l.initial.text.items ++ flat_map doubled (take l.c-index l.field)
