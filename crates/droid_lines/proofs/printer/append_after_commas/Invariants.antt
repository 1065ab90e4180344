-- The first texts were added, each after a comma.
use Rattle.std.proofs.Common.{◌≡◌, ◌++◌, string_bytes, take}
use Rattle.droid_lines.specs.Printed.{after_commas}
use Rattle.droid_lines.proofs.printer.append_after_commas.Given as goal

abbrev pub invariant-loop-text : goal.invariant-loop-text
invariant-loop-text l = string_bytes l.out ≡ string_bytes l.initial.out ++ after_commas (take l.text-index l.texts)
